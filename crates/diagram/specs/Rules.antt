-- The rewrite rules, reduction and negation.
use Rattle.std.specs.Prelude.{Some, None, Option, ℕ, zero, suc, Bool, cond, not, ◌&&◌, List, [], ◌∷◌, ◌++◌, ℤ, pos, neg_ℤ, int_lt}
use Rattle.diagram.specs.Diagrams.{Diagram, top, bottom, node, same, Made}
use Rattle.diagram.specs.declared.rule.Rule.{Rule}
use Rattle.diagram.specs.declared.rule.Rule.TheVariants.{One, Two, Three, Four, Five, Six, Seven, Eight, Nine, Ten}

-- the first rule that changes a quadruple, by what is asked of its parts:
-- which are τ or −τ, which are equal, and whether the label is negative
abbrev pub pick : (aT aB bT bB cT cB ab bc ac negative : Bool) → Option Rule
pick aT aB bT bB cT cB ab bc ac negative =
    cond (aB && bB) (Some One)
    (cond cB (Some Two)
    (cond (aT && bT) (Some Three)
    (cond (ab && cT) (Some Four)
    (cond (bB && (cT && not aT)) (Some Five)
    (cond (aB && (cT && not bT)) (Some Six)
    (cond (bc && not bT) (Some Seven)
    (cond (ac && not aT) (Some Eight)
    (cond (negative && (aT && cT)) (Some Nine)
    (cond (negative && (bT && cT)) (Some Ten) None)))))))))

-- the first rule that changes (x, a, b, c)
abbrev pub rule : ℤ → Diagram → Diagram → Diagram → Option Rule
rule x a b c =
    pick (same a top) (same a bottom) (same b top) (same b bottom) (same c top) (same c bottom) (same a b) (same b c) (same a c)
    (int_lt x (pos 0))

-- a part with its negation: recursion goes from a diagram to its parts, and rules 9 and 10 ask for a part's negation
pub record Part : Type 0 where
  pub it : Diagram
  pub negated : Made

-- τ as a part
abbrev pub τ : Part
τ = record { it = top; negated = record { it = bottom; formed = [] } }

-- −τ as a part
abbrev pub -τ : Part
-τ = record { it = bottom; negated = record { it = top; formed = [] } }

-- a diagram whose negation nobody asks for, since the label is positive
abbrev pub plain : Diagram → Part
plain d = record { it = d; negated = record { it = d; formed = [] } }

-- the diagram as a list of what is formed: ±τ does not count
abbrev pub listed : Diagram → List Diagram
listed top = []
listed bottom = []
listed (node x a b c) = node x a b c ∷ []

-- x·t as the result of a reduction: t, or its negation where x is negative
abbrev pub signed : ℤ → Part → Made
signed x t = cond (int_lt x (pos 0)) t.negated (record { it = t.it; formed = listed t.it })

-- what was formed before comes first
abbrev pub after : List Diagram → Made → Made
after ds m = record { it = m.it; formed = ds ++ m.formed }

-- the quadruple as it is, which is formed
abbrev pub stored : ℤ → Diagram → Diagram → Diagram → Made
stored x a b c = record { it = node x a b c; formed = node x a b c ∷ [] }

-- what a rule makes of a quadruple; `again` goes on with another
abbrev pub apply : Option Rule → (ℤ → Part → Part → Part → Made) → ℤ → Part → Part → Part → Made
apply (Some One) again x a b c = signed x -τ
apply (Some Two) again x a b c = signed x -τ
apply (Some Three) again x a b c = signed x c
apply (Some Four) again x a b c = signed x a
apply (Some Five) again x a b c = again x τ -τ a
apply (Some Six) again x a b c = again x -τ τ b
apply (Some Seven) again x a b c = again x a τ c
apply (Some Eight) again x a b c = again x τ b c
apply (Some Nine) again x a b c = after b.negated.formed (again (neg_ℤ x) -τ (plain b.negated.it) τ)
apply (Some Ten) again x a b c = after a.negated.formed (again (neg_ℤ x) (plain a.negated.it) -τ τ)
apply None again x a b c = stored x a.it b.it c.it

-- the rules, at most k times; `first` in RuleLaws says that six are always enough
unfoldable pub rewrite : ℕ → ℤ → Part → Part → Part → Made
rewrite zero x a b c = stored x a.it b.it c.it
rewrite (suc k) x a b c = apply (rule x a.it b.it c.it) (rewrite k) x a b c

-- negation: the quadruple with the other sign, reduced
unfoldable pub negate : Diagram → Made
negate top = record { it = bottom; formed = [] }
negate bottom = record { it = top; formed = [] }
negate (node x a b c) =
    rewrite 6 (neg_ℤ x) (record { it = a; negated = negate a }) (record { it = b; negated = negate b })
    (record { it = c; negated = negate c })

-- a diagram as a part
abbrev pub part : Diagram → Part
part d = record { it = d; negated = negate d }

-- reducing a quadruple: the first rule that changes it, until none does
abbrev pub reduce : ℤ → Diagram → Diagram → Diagram → Made
reduce x a b c = rewrite 6 x (part a) (part b) (part c)
