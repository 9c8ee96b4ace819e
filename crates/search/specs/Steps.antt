-- The engine calls of a compare, each part put before any others. w names the registers that it uses.
use Rattle.std.specs.Prelude.{ℕ, zero, suc, Bool, true, false, cond, List, [], ◌∷◌}
use Rattle.engine.specs.Ops.{Op, Bits}
use Rattle.search.specs.declared.places.Places.{Places}
use Rattle.search.specs.declared.places.Side.{Side}

-- the registers of a filter's comparison: 3 to 10
abbrev pub places : Places
places = record { inverse = 3; former = 4; nonformer = 5; latter = 6; nonlatter = 7; alike = 8; differing = 9; half = 10 }

-- the complement of the frames on one side
abbrev pub side_steps : Places → Side → List Op → List Op
side_steps w x rest = Op.negate w.inverse x.without ∷ (Op.meet x.frames x.left x.right ∷ (Op.clear w.inverse ∷ (Op.negate x.others x.frames ∷ (Op.clear x.frames ∷ rest))))

-- ¬(a ∧ ¬b)
abbrev pub former_steps : Places → ℕ → ℕ → List Op → List Op
former_steps w a b = side_steps w record { without = b; left = a; right = w.inverse; frames = w.former; others = w.nonformer }

-- ¬(¬a ∧ b)
abbrev pub latter_steps : Places → ℕ → ℕ → List Op → List Op
latter_steps w a b = side_steps w record { without = a; left = w.inverse; right = b; frames = w.latter; others = w.nonlatter }

-- the complement of the conjunction of the two
abbrev pub join_steps : Places → List Op → List Op
join_steps w rest = Op.meet w.alike w.nonformer w.nonlatter ∷ (Op.clear w.nonformer ∷ (Op.clear w.nonlatter ∷ (Op.negate w.differing w.alike ∷ (Op.clear w.alike ∷ rest))))

-- the frames that registers a and b judge differently: ¬(¬(a ∧ ¬b) ∧ ¬(¬a ∧ b))
abbrev pub differ_steps : Places → ℕ → ℕ → List Op → List Op
differ_steps w a b rest = former_steps w a b (latter_steps w a b (join_steps w rest))

-- the half that was chosen takes the place of the whole
abbrev pub take_steps : Places → List Op → List Op
take_steps w rest = Op.copy w.differing w.half ∷ (Op.clear w.half ∷ rest)

-- variable v is fixed at 0, or at 1 where x says that this leaves nothing
abbrev pub pick_steps : Places → ℕ → Bool → List Op → List Op
pick_steps w v x rest = Op.fix w.half w.differing v false ∷ (Op.empty w.half ∷ cond x (Op.clear w.half ∷ (Op.fix w.half w.differing v true ∷ take_steps w rest)) (take_steps w rest))

-- variables 1 to k are fixed as s has them
abbrev pub hunt_steps : Places → Bits → ℕ → List Op → List Op
hunt_steps w s zero rest = rest
hunt_steps w s (suc k) rest = hunt_steps w s k (pick_steps w (suc k) (s (suc k)) rest)

-- the calls of a compare that finds the books alike
abbrev pub alike_steps : List Op
alike_steps = differ_steps places 0 1 (Op.empty 9 ∷ (Op.clear 9 ∷ []))

-- the calls of a compare that finds the least frame s
abbrev pub least_steps : ℕ → Bits → List Op
least_steps n s = differ_steps places 0 1 (Op.empty 9 ∷ hunt_steps places s n (Op.clear 9 ∷ []))
