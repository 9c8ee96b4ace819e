-- The engine calls of each call of a filter, each part put before any others. w names the scratch registers.
use Rattle.std.specs.Prelude.{ℕ, zero, suc, ◌+◌, cond, List, [], ◌∷◌}
use Rattle.engine.specs.Ops.{Op, bit_at}
use Rattle.kind.specs.declared.rule.Action.{Action}
use Rattle.kind.specs.declared.rule.Rule.{Rule}
use Rattle.kind.specs.Rules.{blocks}
use Rattle.steps.specs.declared.scratch.Scratch.{Scratch}

-- the scratch registers of a filter: 3 to 11
abbrev pub scratch : Scratch
scratch = record { rule = 3; literal = 4; negated = 5; left = 6; right = 7; both = 8; fresh = 9; matched = 10; blocked = 11 }

-- the k registers from d on become false
abbrev pub clears : ℕ → ℕ → List Op → List Op
clears d zero rest = rest
clears d (suc k) rest = Op.clear d ∷ clears (d + 1) k rest

-- every register becomes false
abbrev pub wipe_steps : List Op → List Op
wipe_steps rest = clears 0 16 rest

-- where bit v counts, the rule's register is met with the literal, negated for value 0, the literal first
abbrev pub bit_steps : Scratch → Rule → ℕ → List Op → List Op
bit_steps w r v rest =
    cond (bit_at r.care v)
    (Op.literal w.literal v ∷ cond (bit_at r.value v)
    (Op.meet w.rule w.literal w.rule ∷ (Op.clear w.literal ∷ rest))
    (Op.negate w.negated w.literal ∷ (Op.clear w.literal ∷ (Op.meet w.rule w.negated w.rule ∷ (Op.clear w.negated ∷ rest)))))
    rest

-- from bit v down to bit 1
abbrev pub bits_steps : Scratch → Rule → ℕ → List Op → List Op
bits_steps w r zero rest = rest
bits_steps w r (suc v) rest = bit_steps w r (suc v) (bits_steps w r v rest)

-- the rule's register starts true, the complement of false, and is met with each bit that counts, from last to first
abbrev pub rule_steps : Scratch → Rule → ℕ → List Op → List Op
rule_steps w r n rest = Op.negate w.rule w.literal ∷ bits_steps w r n rest

-- register d becomes a or b, that is ¬(¬a ∧ ¬b), and b becomes false
abbrev pub join_steps : Scratch → ℕ → ℕ → ℕ → List Op → List Op
join_steps w d a b rest =
    Op.negate w.left a ∷ (Op.negate w.right b ∷ (Op.clear b ∷ (Op.meet w.both w.left w.right ∷ (Op.clear w.left ∷ (Op.clear w.right ∷ (Op.negate d w.both ∷ (Op.clear w.both ∷ rest)))))))

-- the frames that the rule matches, and those of them that are not in register m
abbrev pub find_steps : Scratch → ℕ → Rule → ℕ → List Op → List Op
find_steps w m r n rest = rule_steps w r n (Op.negate w.left m ∷ (Op.meet w.fresh w.rule w.left ∷ (Op.clear w.left ∷ rest)))

-- the frames matched and, for block, blocked with the rule, from those matched (m) and blocked (b) before it
abbrev pub keep_steps : Scratch → ℕ → ℕ → Rule → List Op → List Op
keep_steps w m b r rest =
    cond (blocks r.action)
    (join_steps w w.matched m w.rule (join_steps w w.blocked b w.fresh rest))
    (Op.clear w.fresh ∷ join_steps w w.matched m w.rule rest)

-- all that comes before the draft's registers are written, with the test whether the rule decides no frame
abbrev pub work_steps : Scratch → Rule → ℕ → List Op → List Op
work_steps w r n rest = find_steps w 2 r n (Op.empty w.fresh ∷ keep_steps w 2 1 r rest)

-- both of the draft's registers are written, and the scratch registers cleared
abbrev pub replace_steps : List Op → List Op
replace_steps rest = Op.copy 2 10 ∷ (Op.copy 1 11 ∷ (Op.clear 10 ∷ (Op.clear 11 ∷ rest)))

-- the draft's registers that a rule of this action changes are written, and the scratch registers cleared
abbrev pub stored_steps : Action → List Op → List Op
stored_steps a rest = cond (blocks a) (replace_steps rest) (Op.copy 2 10 ∷ (Op.clear 10 ∷ rest))

-- the draft's registers that the rule changes are written, and the scratch registers cleared
abbrev pub store_steps : Rule → List Op → List Op
store_steps r = stored_steps r.action

-- the frames that these rules match and block are put together in the scratch registers
abbrev pub rebuild_steps : List Rule → ℕ → List Op → List Op
rebuild_steps [] n rest = rest
rebuild_steps (r ∷ rs) n rest = find_steps scratch 10 r n (keep_steps scratch 10 11 r (rebuild_steps rs n rest))

-- the scratch registers become false
abbrev pub sweep_steps : List Op → List Op
sweep_steps rest = Op.clear 3 ∷ (Op.clear 4 ∷ (Op.clear 5 ∷ (Op.clear 6 ∷ (Op.clear 7 ∷ (Op.clear 8 ∷ (Op.clear 9 ∷ (Op.clear 10 ∷ (Op.clear 11 ∷ rest))))))))

-- the calls of an add of the rule
abbrev pub add_steps : Rule → ℕ → List Op
add_steps r n = work_steps scratch r n (store_steps r [])

-- the calls of a withdraw that leaves these rules
abbrev pub withdraw_steps : List Rule → ℕ → List Op
withdraw_steps rs n = rebuild_steps rs n (replace_steps [])
