-- Action words and ports are read exactly as the relations say.
use Rattle.std.proofs.Common.{◌≡◌, ℕ, cond, leb, List, Some, None, Ok, Err, codes, Option, Result, sym, refl, ap, ◌∙◌, arith}
use Rattle.std.specs.Str.{bytes_eq}
use Rattle.std.proofs.lemmas.Bool.{cond_both, leb-true, leb-false, le-leb}
use Rattle.std.proofs.lemmas.Bool.Decides.{not_from_Decides}
use Rattle.std.proofs.lemmas.Slice.Eq.{bytes_eq-Decides}
use Rattle.text.specs.declared.fault.LineFault.{LineFault}
use Rattle.text.specs.declared.fault.LineFault.TheVariants as line
use Rattle.text.specs.Numerals.{decimal}
use Rattle.text.proofs.Spelled.{decimal_to, decimal_from}
use Rattle.kind.specs.declared.rule.Action.{Action}
use Rattle.kind.specs.declared.rule.Action.TheVariants.{Block, Pass}
use Rattle.kind.specs.declared.fault.PortFault.TheVariants.{Number}
use Rattle.kind.specs.Actions.{action_word, action_of}
use Rattle.ipv6.specs.Lines.{port_or}
use Rattle.ipv6.specs.Grammar.{PortText}

-- a field is read as what it is; where it is nothing, the fault is this one
abbrev pub Found : {A E : Type 0} → (A → Type 0) → E → Result A E → Type 0
Found {A} {E} Is d (Ok a) = Is a
Found {A} {E} Is d (Err f) = (d ≡ f) × ((a : A) → Is a → ⊥)

pub found_none : {A E : Type 0} (Is : A → Type 0) (d : E) (r : Result A E) → Found Is d r → ((a : A) → Is a → ⊥) → r ≡ Err d
found_none Is d (Ok a) h n = absurd (n a h)
found_none Is d (Err f) h n = ap Err (sym h.0)

-- the text is the action's word
abbrev pub Says : List ℕ → Action → Type 0
Says text a = text ≡ action_word a

-- a field for the action
pub word_found : (text : List ℕ) (place : ℕ) → Found (Says text) (line.Action place) (action_of text place)
word_found text place =
    let block = bytes_eq-Decides text (codes "block") in
    let pass = bytes_eq-Decides text (codes "pass") in
    let P : Result Action LineFault → Type 0 = Found (Says text) (line.Action place) in
    let other : Result Action LineFault = cond (bytes_eq text (codes "pass")) (Ok Pass) (Err (line.Action place)) in
    cond_both (bytes_eq text (codes "block")) (Ok Block) other P block.0 (λ e. cond_both (bytes_eq text (codes "pass")) (Ok Pass) (Err (line.Action place)) P pass.0 (λ f. (refl, neither (not_from_Decides _ block e) (not_from_Decides _ pass f))))
  where
    neither : (Says text Block → ⊥) → (Says text Pass → ⊥) → (a : Action) → Says text a → ⊥
    neither n m Block e = n e
    neither n m Pass e = m e

pub word_to : (a : Action) (text : List ℕ) (place : ℕ) → Says text a → action_of text place ≡ Ok a
word_to Block text place e = rw e refl
word_to Pass text place e = rw e refl

-- a field for the port
pub port_to : (p : ℕ) {t : List ℕ} {q : ℕ} → PortText t q → port_or p (decimal t) ≡ Ok q
port_to p {t} {q} n = ap (port_or p) (decimal_to n.decimal) ∙ rw (le-leb q 65535 n.fits) refl

pub port_found : (p : ℕ) (t : List ℕ) → Found (PortText t) (Number p) (port_or p (decimal t))
port_found p t = go (decimal t) refl
  where
    go : (o : Option ℕ) → decimal t ≡ o → Found (PortText t) (Number p) (port_or p o)
    go None h = (refl, λ q n. let e : decimal t ≡ Some q = decimal_to n.decimal in cc)
    go (Some n) h =
        cond_both (leb n 65535) (Ok n) (Err (Number p)) (Found (PortText t) (Number p)) (λ l. record { decimal = decimal_from t n h; fits = leb-true n 65535 l })
        (λ l. (refl, λ q m. let e : decimal t ≡ Some q = decimal_to m.decimal in let same : n ≡ q = cc in omega (arith, leb-false n 65535 l, m.fits)))
