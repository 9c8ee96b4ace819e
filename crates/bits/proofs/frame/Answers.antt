use Rattle.std.proofs.Common.{◌≡◌, ◌∙◌, div-one, arith}
use Rattle.bits.specs.Frames.{be_bytes}
use Rattle.bits.proofs.Bytes.{frame_is}
use Rattle.bits.proofs.frame.Goals as goal

pub returns : goal.returns
returns c =
    let a : c.to_be_bytes-a.result ≡ be_bytes 16 c.args.address = rw (div-one c.args.address) c.to_be_bytes-a.ensures in
    let p : c.to_be_bytes-p.result ≡ be_bytes 2 c.args.port = rw (div-one c.args.port) c.to_be_bytes-p.ensures in
    frame_is c.args.address c.args.port _ _ (omega arith) (c.copy_from_slice.ensures.after ∙ a) (c.copy_from_slice-2.ensures.after ∙ p)
