-- Address text is refused exactly as the relation says.
use Rattle.std.proofs.Common.{◌≡◌, ℕ, ◌+◌, ◌-◌, Bool, true, false, cond, eqb, leb, List, [], ◌∷◌, ◌++◌, length, take, drop, replicate, Some, None, Ok, Err, Option, Result, sym, refl, ap, ◌∙◌, subst, arith, length-append}
use Rattle.std.proofs.lemmas.Bool.{lt-leb, ne_eqb, eq-eqb, le-leb}
use native.Mathlib.Decide.{dec_lt}
use Rattle.text.specs.Numerals.{group}
use Rattle.text.specs.Split.{Part, split}
use Rattle.text.specs.Written.{Group}
use Rattle.text.proofs.Spelled.{nothing, group_to, group_from}
use Rattle.address.specs.declared.fault.GroupFault.{GroupFault}
use Rattle.address.specs.declared.fault.GroupFault.TheVariants.{Piece}
use Rattle.address.specs.declared.fault.AddressFault.{AddressFault}
use Rattle.address.specs.declared.fault.AddressFault.TheVariants as fault
use Rattle.address.specs.Address.{group_or, group_at, first_then, with_first, groups, before_gap_of, side, plain, gapped, numbered, address}
use Rattle.address.specs.Refusals.{has_gap, pieces, Values, none, more, FirstBad, here, later, Miscounted, AddressRefused, no_group, miscounted, Refuses}
use Rattle.address.proofs.Spelling.{refused, same_ok, ok_first, ok_group}

pub same_err : {T E : Type 0} {x y : E} → ◌≡◌ {A = Result T E} (Err x) (Err y) → x ≡ y
same_err h = cc

same_some : {T : Type 0} {x y : T} → Some x ≡ Some y → x ≡ y
same_some h = cc

no_value : {T P : Type 0} {x : T} → None ≡ Some x → P
no_value e = absurd (cc)

same_place : {p q : ℕ} → Piece p ≡ Piece q → p ≡ q
same_place h = cc

-- a group in front of pieces
group_first : (f : Part) (fs : List Part) (v : ℕ) → Group f.text v → groups (f ∷ fs) ≡ with_first v (groups fs)
group_first f fs v g = ap (λ o. first_then (group_or f.place o) (groups fs)) (group_to g)

values_from : (fs : List Part) (vs : List ℕ) → groups fs ≡ Ok vs → Values fs vs
values_from [] vs e = subst (Values []) (same_ok e) none
values_from (f ∷ fs) vs e =
    let o = ok_first (group_at f) (groups fs) vs e in
    subst (Values (f ∷ fs)) o.4 (more f fs o.0 o.1 (group_from f.text o.0 (ok_group f.place (group f.text) o.0 o.2)) (values_from fs o.1 o.3))

values_to : {fs : List Part} {vs : List ℕ} → Values fs vs → groups fs ≡ Ok vs
values_to none = refl
values_to (more f fs v vs g r) = group_first f fs v g ∙ ap (with_first v) (values_to r)

bad_first : (f : Part) (fs : List Part) (p : ℕ) (o : Option ℕ) (r : Result (List ℕ) GroupFault) → group f.text ≡ o → (r ≡ Err (Piece p) → FirstBad fs p) → first_then (group_or f.place o) r ≡ Err (Piece p) → FirstBad (f ∷ fs) p
bad_first f fs p None r h k e = subst (FirstBad (f ∷ fs)) (same_place (same_err e)) (here f fs (λ v g. nothing (sym h ∙ group_to g)))
bad_first f fs p (Some v) (Ok ws) h k e = refused (sym e)
bad_first f fs p (Some v) (Err d) h k e = later f fs v p (group_from f.text v h) (k (ap Err (same_err e)))

bad_from : (fs : List Part) (p : ℕ) → groups fs ≡ Err (Piece p) → FirstBad fs p
bad_from [] p e = refused (sym e)
bad_from (f ∷ fs) p e = bad_first f fs p (group f.text) (groups fs) refl (bad_from fs p) e

no_group_is : (t : List ℕ) → ((v : ℕ) → Group t v → ⊥) → group t ≡ None
no_group_is t n = go (group t) refl
  where
    go : (o : Option ℕ) → group t ≡ o → o ≡ None
    go None h = refl
    go (Some v) h = absurd (n v (group_from t v h))

bad_to : {fs : List Part} {p : ℕ} → FirstBad fs p → groups fs ≡ Err (Piece p)
bad_to (here f fs n) = ap (λ o. first_then (group_or f.place o) (groups fs)) (no_group_is f.text n)
bad_to (later f fs v p g b) = group_first f fs v g ∙ ap (with_first v) (bad_to b)

-- the groups of one row of pieces and then of another
abbrev joint : Result (List ℕ) GroupFault → Result (List ℕ) GroupFault → Result (List ℕ) GroupFault
joint (Err e) r = Err e
joint (Ok ls) (Err e) = Err e
joint (Ok ls) (Ok rs) = Ok (ls ++ rs)

joint_first : (o : Result ℕ GroupFault) (x y : Result (List ℕ) GroupFault) → first_then o (joint x y) ≡ joint (first_then o x) y
joint_first (Err e) x y = refl
joint_first (Ok v) (Err e) y = refl
joint_first (Ok v) (Ok ls) (Err e) = refl
joint_first (Ok v) (Ok ls) (Ok rs) = refl

joint_none : (r : Result (List ℕ) GroupFault) → r ≡ joint (Ok []) r
joint_none (Err e) = refl
joint_none (Ok rs) = refl

groups_append : (a b : List Part) → groups (a ++ b) ≡ joint (groups a) (groups b)
groups_append [] b = joint_none (groups b)
groups_append (f ∷ a) b = ap (first_then (group_at f)) (groups_append a b) ∙ joint_first (group_at f) (groups a) (groups b)

-- the number of groups is right
abbrev right : Bool → ℕ → Bool
right true n = leb n 7
right false n = eqb n 8

right_from : (b : Bool) (n : ℕ) → right b n ≡ false → Miscounted b n
right_from true n e = elim (dec_lt 7 n) [ yes p ↦ p | no p ↦ absurd (let t : true ≡ false = sym (le-leb n 7 (omega arith)) ∙ e in cc) ]
right_from false n e = λ h. let t : true ≡ false = sym (eq-eqb n 8 h) ∙ e in cc

right_to : (b : Bool) (n : ℕ) → Miscounted b n → right b n ≡ false
right_to true n h = lt-leb n 7 h
right_to false n h = ne_eqb n 8 h

-- the fault of an answer, and of the groups of all pieces
abbrev fault_of : {T : Type 0} → Result T AddressFault → Option AddressFault
fault_of (Ok x) = None
fault_of (Err e) = Some e

abbrev fault_when : Result (List ℕ) GroupFault → Bool → Option AddressFault
fault_when (Err e) b = Some (fault.Group e)
fault_when (Ok vs) b = cond (right b (length vs)) None (Some (fault.Count 0))

cond_fault : (b : Bool) (vs : List ℕ) → fault_of (numbered (cond b (Ok vs) (Err (fault.Count 0)))) ≡ cond b None (Some (fault.Count 0))
cond_fault true vs = refl
cond_fault false vs = refl

gap_fault : (x y : Result (List ℕ) GroupFault) → fault_of (numbered (gapped x y)) ≡ fault_when (joint x y) true
gap_fault (Err e) y = refl
gap_fault (Ok ls) (Err e) = refl
gap_fault (Ok ls) (Ok rs) = rw (length-append ls rs) (cond_fault (leb (length ls + length rs) 7) (ls ++ (replicate (8 - (length ls + length rs)) 0 ++ rs)))

plain_fault : (x : Result (List ℕ) GroupFault) → fault_of (numbered (plain x)) ≡ fault_when x false
plain_fault (Err e) = refl
plain_fault (Ok vs) = cond_fault (eqb (length vs) 8) vs

address_fault : (text : List ℕ) → fault_of (address text) ≡ fault_when (groups (pieces text)) (has_gap text)
address_fault text = go (has_gap text) (side 0 (take (before_gap_of text) text)) (side (before_gap_of text + 2) (drop (before_gap_of text + 2) text)) (split 58 0 text)
  where
    go : (b : Bool) (l r s : List Part) → fault_of (numbered (cond b (gapped (groups l) (groups r)) (plain (groups s)))) ≡ fault_when (groups (cond b (l ++ r) s)) b
    go true l r s = gap_fault (groups l) (groups r) ∙ ap (λ x. fault_when x true) (sym (groups_append l r))
    go false l r s = plain_fault (groups s)

is_fault : {T : Type 0} (r : Result T AddressFault) (f : AddressFault) → fault_of r ≡ Some f → r ≡ Err f
is_fault (Ok x) f e = no_value e
is_fault (Err d) f e = ap Err (same_some e)

pub refusal_from : (text : List ℕ) (f : AddressFault) → address text ≡ Err f → AddressRefused text f
refusal_from text f e = go (groups (pieces text)) refl (sym (address_fault text) ∙ ap fault_of e)
  where
    wrong : (vs : List ℕ) (c : Bool) → groups (pieces text) ≡ Ok vs → right (has_gap text) (length vs) ≡ c → cond c None (Some (fault.Count 0)) ≡ Some f → AddressRefused text f
    wrong vs true h c e = no_value e
    wrong vs false h c e = subst (AddressRefused text) (same_some e) (miscounted vs (values_from (pieces text) vs h) (right_from (has_gap text) (length vs) c))

    go : (r : Result (List ℕ) GroupFault) → groups (pieces text) ≡ r → fault_when r (has_gap text) ≡ Some f → AddressRefused text f
    go (Err (Piece p)) h e = subst (AddressRefused text) (same_some e) (no_group p (bad_from (pieces text) p h))
    go (Ok vs) h e = wrong vs (right (has_gap text) (length vs)) h refl e

pub refusal_to : (text : List ℕ) (f : AddressFault) → AddressRefused text f → address text ≡ Err f
refusal_to text f (no_group p b) = is_fault (address text) f (address_fault text ∙ ap (λ r. fault_when r (has_gap text)) (bad_to b))
refusal_to text f (miscounted vs v m) =
    is_fault (address text) f (address_fault text ∙ ap (λ r. fault_when r (has_gap text)) (values_to v) ∙ ap (λ b. cond b None (Some (fault.Count 0))) (right_to (has_gap text) (length vs) m))

-- an answer that is the address
pub refuses_address : (t : List ℕ) (r : Result ℕ AddressFault) → r ≡ address t → Refuses r (AddressRefused t)
refuses_address t r e f = (λ h. refusal_from t f (sym e ∙ h), λ g. e ∙ refusal_to t f g)
