-- An address of 128 bits and a port of 16 bits as the 18 bytes of a frame.
use Rattle.std.specs.Prelude.{◌≡◌, ℕ, zero, suc, ◌+◌, ◌-◌, ◌*◌, ◌/◌, ◌%◌, ◌^◌, List, [], ◌∷◌, Some, None, Option}
use Rattle.engine.specs.Ops.{Bits, spelt}

-- the lowest k bytes of a number, the highest of them first
abbrev pub be_bytes : ℕ → ℕ → List ℕ
be_bytes zero v = []
be_bytes (suc k) v = v / 256 ^ k % 256 ∷ be_bytes k v

-- 16 bytes of address and then 2 of port, high byte first
abbrev pub frame_bytes : ℕ → ℕ → List ℕ
frame_bytes address port = be_bytes 18 (address * 65536 + port)

-- the frame that has these bits
unfoldable pub frame_of : Bits → List ℕ
frame_of s = be_bytes 18 (spelt 144 s)

-- 128 bits of which the first k are set
abbrev pub first_bits_of : ℕ → ℕ
first_bits_of k = 2 ^ 128 - 2 ^ (128 - k)

-- how many address bits count: all where no length is given
abbrev pub counting : Option ℕ → ℕ
counting None = 128
counting (Some k) = k

-- the port that is given; 0 where there is none
abbrev pub given : Option ℕ → ℕ
given None = 0
given (Some p) = p

-- the port bits that count: all 16, or none where no port is given
abbrev pub port_care : Option ℕ → ℕ
port_care None = 0
port_care (Some p) = 65535

-- the port that is given, if any, is this one
abbrev pub PortIs : Option ℕ → ℕ → Type 0
PortIs None port = Unit {0}
PortIs (Some p) port = port ≡ p

-- the value of a rule for an address and a port
abbrev pub value_bytes : ℕ → Option ℕ → List ℕ
value_bytes address port = frame_bytes address (given port)

-- the bits that count in a rule with this length and port
abbrev pub care_bytes : Option ℕ → Option ℕ → List ℕ
care_bytes length port = frame_bytes (first_bits_of (counting length)) (port_care port)
