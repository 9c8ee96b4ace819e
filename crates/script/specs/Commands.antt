-- The commands of a script.
use Rattle.std.specs.Prelude.{ℕ, ◌+◌, Bool, cond, List, length, take, drop, Some, None, Ok, Err, codes, Option, Result, ◌==◌, nat_lt, slice_index}
use Rattle.std.specs.Option.{ok_or}
use Rattle.std.specs.Str.{bytes_eq}
use Rattle.text.specs.Split.{before}
use Rattle.script.specs.declared.command.Command.{Command}
use Rattle.script.specs.declared.command.Command.TheVariants.{Read, Filter, Add, AddHex, Judge, Withdraw, Commit, Compare}
use Rattle.script.specs.declared.command.BadCommand.{BadCommand}
use Rattle.script.specs.declared.command.KindName.{KindName}
use Rattle.script.specs.declared.command.KindName.TheVariants.{Flat, Ipv6}
use Rattle.script.specs.Decimals.{decimal_of}

-- what a line asks for, with the bytes that it names
pub data Said : Type 0 where
  read : KindName → List ℕ → Said
  filter : KindName → Option ℕ → Said
  add : List ℕ → Said
  add_hex : List ℕ → Said
  judge : List ℕ → Said
  withdraw : ℕ → Said
  commit : Said
  compare : Said

-- what the code's command says
abbrev pub shown : Command → Said
shown (Read k t) = read k t.now
shown (Filter k n) = filter k n
shown (Add t) = add t.now
shown (AddHex t) = add_hex t.now
shown (Judge t) = judge t.now
shown (Withdraw i) = withdraw i
shown Commit = commit
shown Compare = compare

-- f of what an answer holds
abbrev pub ok_map : {A B : Type 0} → (A → B) → Result A BadCommand → Result B BadCommand
ok_map f (Ok x) = Ok (f x)
ok_map f (Err e) = Err e

-- the line is no command
abbrev pub bad : BadCommand
bad = record {}

-- a command of one word
abbrev pub alone : List ℕ → Result Said BadCommand
alone w = cond (bytes_eq w (codes "commit")) (Ok commit) (cond (bytes_eq w (codes "compare")) (Ok compare) (Err bad))

-- the rest of a withdraw: a number
abbrev pub withdraw_of : List ℕ → Result Said BadCommand
withdraw_of rest = ok_map withdraw (ok_or (decimal_of rest) bad)

-- the text before the first space, and the text behind it
abbrev pub front : List ℕ → List ℕ
front t = take (before 32 t) t

abbrev pub behind : List ℕ → List ℕ
behind t = drop (before 32 t + 1) t

-- the text has a space
abbrev pub spaced : List ℕ → Bool
spaced t = nat_lt (before 32 t) (length t)

-- the texts beside the first space, where there is one
abbrev pub halves : List ℕ → Option (List ℕ × List ℕ)
halves t = cond (spaced t) (Some (front t, behind t)) None

-- the kind that a word names
abbrev pub kind_of : List ℕ → Result KindName BadCommand
kind_of w = cond (bytes_eq w (codes "flat")) (Ok Flat) (cond (bytes_eq w (codes "ipv6")) (Ok Ipv6) (Err bad))

-- what f says of the kind, where there is one
abbrev pub with_kind : Result KindName BadCommand → (KindName → Result Said BadCommand) → Result Said BadCommand
with_kind (Ok k) f = f k
with_kind (Err e) f = Err e

-- the rest of a read: the kind, a space, and a line in hexadecimal
abbrev pub read_of : List ℕ → Result Said BadCommand
read_of rest = cond (spaced rest) (with_kind (kind_of (front rest)) (λ k. Ok (read k (behind rest)))) (Err bad)

-- the number of variables that a box is given: `n`, a space and a number
abbrev pub size_of : List ℕ → Result ℕ BadCommand
size_of t = cond (spaced t) (cond (bytes_eq (front t) (codes "n")) (ok_or (decimal_of (behind t)) bad) (Err bad)) (Err bad)

-- the engine, and the number of variables where one is given
abbrev pub engine_of : List ℕ → Result (Option ℕ) BadCommand
engine_of t = cond (spaced t) (cond (bytes_eq (front t) (codes "word")) (ok_map Some (size_of (behind t))) (Err bad)) (cond (bytes_eq t (codes "word")) (Ok None) (Err bad))

-- the rest of a box: the kind, a space, and the engine
abbrev pub box_of : List ℕ → Result Said BadCommand
box_of rest = cond (spaced rest) (with_kind (kind_of (front rest)) (λ k. ok_map (filter k) (engine_of (behind rest)))) (Err bad)

-- a command of a word, a space and an argument that is read in turn
abbrev pub with_argument : List ℕ → List ℕ → Result Said BadCommand
with_argument w rest =
    cond (bytes_eq w (codes "withdraw")) (withdraw_of rest)
    (cond (bytes_eq w (codes "read")) (read_of rest)
    (cond (bytes_eq w (codes "box")) (box_of rest) (Err bad)))

-- a command of a word, a space and the rest of the line
abbrev pub with_rest : List ℕ → List ℕ → Result Said BadCommand
with_rest w rest =
    cond (bytes_eq w (codes "add")) (Ok (add rest))
    (cond (bytes_eq w (codes "addhex")) (Ok (add_hex rest))
    (cond (bytes_eq w (codes "judge")) (Ok (judge rest)) (with_argument w rest)))

-- what a line with a command asks for
abbrev pub worded : List ℕ → Result Said BadCommand
worded line = cond (spaced line) (with_rest (front line) (behind line)) (alone line)

-- what a line asks for; an empty line and one that begins with `#` ask for nothing
abbrev pub command_of : List ℕ → Result (Option Said) BadCommand
command_of line = cond (length line == 0) (Ok None) (cond (slice_index line 0 == 35) (Ok None) (ok_map Some (worded line)))
