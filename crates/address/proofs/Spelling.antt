-- Address text is read exactly as its grammar says.
use Rattle.std.proofs.Common.{◌≡◌, ℕ, zero, suc, ◌+◌, ◌-◌, ◌<◌, ◌≤◌, Bool, true, false, cond, ◌&&◌, eqb, ltb, leb, ◌⊎◌, List, [], ◌∷◌, ◌++◌, length, take, drop, replicate, Some, None, Ok, Err, Option, Result, sym, refl, ap, ◌∙◌, subst, inl, inr, append_assoc, append-nil, arith, length-append}
use Rattle.std.proofs.lemmas.List.{take_at, drop_at, take_all, drop-drop, length-drop}
use Rattle.std.proofs.lemmas.Bool.{lt-ltb, le-ltb, le-leb, eq-eqb, eqb-true, cases_lt, leb-true, ltb-true, and_parts}
use Rattle.text.specs.Numerals.{group}
use Rattle.text.specs.Split.{Part, split, before}
use Rattle.text.specs.Written.{Group}
use Rattle.text.proofs.Clears.{Without, group_without, split_without, split_first, cut_at}
use Rattle.text.proofs.Parts.{behind, split_is}
use Rattle.text.proofs.Spelled.{group_to, group_from}
use Rattle.address.specs.declared.fault.GroupFault.{GroupFault}
use Rattle.address.specs.declared.fault.AddressFault.{AddressFault}
use Rattle.address.specs.declared.fault.AddressFault.TheVariants.{Count}
use Rattle.address.specs.Address.{group_or, first_then, groups, with_first, opens_gap, before_gap_of, side, plain, gapped, address_groups, numbered, address}
use Rattle.address.specs.Grammar.{Joined, one, more, Side, none, some, Spells, full, short, Spelling, Accepts}

-- a fault is no value
pub refused : {T E P : Type 0} {e : E} {x : T} → ◌≡◌ {A = Result T E} (Err e) (Ok x) → P
refused h = absurd (cc)

pub same_ok : {T E : Type 0} {x y : T} → ◌≡◌ {A = Result T E} (Ok x) (Ok y) → x ≡ y
same_ok h = cc

-- a group has no `:`
clear : {t : List ℕ} {v : ℕ} → Group t v → Without 58 t
clear g = group_without 58 refl g

groups_some : (p : ℕ) (t : List ℕ) (v : ℕ) (fs : List Part) → group t ≡ Some v → groups (record { place = p; text = t } ∷ fs) ≡ with_first v (groups fs)
groups_some p t v fs e = ap (λ o. first_then (group_or p o) (groups fs)) e

joined_groups : {t vs : List ℕ} (p : ℕ) → Joined t vs → groups (split 58 p t) ≡ Ok vs
joined_groups p (one t v g) = ap groups (split_without 58 p t (clear g)) ∙ groups_some p t v [] (group_to g)
joined_groups p (more t ts v vs g j) =
    ap groups (split_first 58 p t ts (clear g)) ∙ groups_some p t v (split 58 (suc (p + length t)) ts) (group_to g) ∙ ap (with_first v) (joined_groups (suc (p + length t)) j)

-- the first byte of a group, which is no `:`
record Begins (t : List ℕ) : Type 0 where
  byte : ℕ
  rest : List ℕ
  is : t ≡ byte ∷ rest
  other : eqb byte 58 ≡ false

group_begins : (t ts : List ℕ) → 1 ≤ length t → Without 58 t → Begins (t ++ ts)
group_begins [] ts l w = absurd (omega arith)
group_begins (x ∷ xs) ts l w = record { byte = x; rest = xs ++ ts; is = refl; other = w.0 }

joined_begins : {t vs : List ℕ} → Joined t vs → Begins t
joined_begins (one t v g) = subst Begins (append-nil t) (group_begins t [] g.some (clear g))
joined_begins (more t ts v vs g j) = group_begins t (58 ∷ ts) g.some (clear g)

side_groups : {t vs : List ℕ} (p : ℕ) → Side t vs → groups (side p t) ≡ Ok vs
side_groups p none = refl
side_groups p (some [] vs j) = let h = joined_begins j in absurd (omega (arith, ap length h.is))
side_groups p (some (x ∷ xs) vs j) = joined_groups p j

-- no `::` begins at a byte that is no `:`
open_not : (x : ℕ) (xs : List ℕ) → eqb x 58 ≡ false → opens_gap (x ∷ xs) ≡ false
open_not x [] e = refl
open_not x (y ∷ ys) e = rw e refl

gap_clear : (t rest : List ℕ) → Without 58 t → before_gap_of (t ++ rest) ≡ length t + before_gap_of rest
gap_clear [] rest c = omega arith
gap_clear (x ∷ xs) rest c = rw (open_not x (xs ++ rest) c.0) (omega (arith, gap_clear xs rest c.1))

joined_gap : {t vs : List ℕ} (rest : List ℕ) → Joined t vs → before_gap_of (t ++ rest) ≡ length t + before_gap_of rest
joined_gap rest (one t v g) = gap_clear t rest (clear g)
joined_gap rest (more t ts v vs g j) =
    let h = joined_begins j in
    let n : opens_gap (58 ∷ (ts ++ rest)) ≡ false = rw h.is h.other in
    let s : before_gap_of (58 ∷ (ts ++ rest)) ≡ suc (before_gap_of (ts ++ rest)) = rw n refl in
    rw (append_assoc t (58 ∷ ts) rest, length-append t (58 ∷ ts)) (omega (arith, gap_clear t (58 ∷ (ts ++ rest)) (clear g), s, joined_gap rest j))

side_gap : {t vs : List ℕ} (rest : List ℕ) → Side t vs → before_gap_of (t ++ rest) ≡ length t + before_gap_of rest
side_gap rest none = omega arith
side_gap rest (some t vs j) = joined_gap rest j

-- what is spelled is accepted
accepted : {t gs : List ℕ} → Spells t gs → address_groups t ≡ Ok gs
accepted (full t vs j l) =
    let g : before_gap_of t ≡ length t = ap before_gap_of (sym (append-nil t)) ∙ joined_gap [] j ∙ omega arith in
    rw (g, le-ltb (length t) (length t) (omega arith), joined_groups 0 j, eq-eqb (length vs) 8 l) refl
accepted (short l ls r rs n a b m k) =
    let g : before_gap_of (l ++ (58 ∷ 58 ∷ r)) ≡ length l = side_gap (58 ∷ 58 ∷ r) a ∙ omega arith in
    let w : length l < length (l ++ (58 ∷ 58 ∷ r)) = omega (arith, length-append l (58 ∷ 58 ∷ r)) in
    let d : drop (length l + 2) (l ++ (58 ∷ 58 ∷ r)) ≡ r = sym (drop-drop 2 (length l) (l ++ (58 ∷ 58 ∷ r))) ∙ ap (drop 2) (drop_at l (58 ∷ 58 ∷ r) (length l) refl) in
    let q : 8 - (length ls + length rs) ≡ n = omega arith in
    rw (g, lt-ltb _ _ w, take_at l (58 ∷ 58 ∷ r) (length l) refl, d, side_groups 0 a, side_groups (length l + 2) b, le-leb (length ls + length rs) 7 (omega arith), q) refl

-- what is accepted is spelled
pub ok_first : (r : Result ℕ GroupFault) (rs : Result (List ℕ) GroupFault) (vs : List ℕ) → first_then r rs ≡ Ok vs → (v : ℕ) × (ws : List ℕ) × (r ≡ Ok v) × (rs ≡ Ok ws) × (v ∷ ws ≡ vs)
ok_first (Ok v) (Ok ws) vs e = (v, ws, refl, refl, same_ok e)
ok_first (Ok v) (Err d) vs e = refused e
ok_first (Err d) rs vs e = refused e

pub ok_group : (p : ℕ) (o : Option ℕ) (v : ℕ) → group_or p o ≡ Ok v → o ≡ Some v
ok_group p (Some w) v e = ap Some (same_ok e)
ok_group p None v e = refused e

joined_step : (n p m : ℕ) (t vs ws : List ℕ) (v : ℕ) → m ≡ before 58 t → length t ≤ suc n → group (take m t) ≡ Some v → groups (behind 58 p m t) ≡ Ok ws → v ∷ ws ≡ vs → ((q : ℕ) (us xs : List ℕ) → length us ≤ n → groups (split 58 q us) ≡ Ok xs → Joined us xs) → (m < length t) ⊎ (length t ≤ m) → Joined t vs
joined_step n p m t vs ws v b h g e c f (inl l) =
    let r : groups (split 58 (suc (p + m)) (drop (suc m) t)) ≡ Ok ws = rw (lt-ltb m (length t) l) at e in
    let j : Joined (drop (suc m) t) ws = f (suc (p + m)) (drop (suc m) t) ws (omega (arith, length-drop (suc m) t)) r in
    let k : take m t ++ (58 ∷ drop (suc m) t) ≡ t = rw b (cut_at 58 t (omega arith)) in
    subst (λ x. Joined x vs) k (subst (Joined _) c (more (take m t) (drop (suc m) t) v ws (group_from (take m t) v g) j))
joined_step n p m t vs ws v b h g e c f (inr l) =
    let r : ◌≡◌ {A = Result (List ℕ) GroupFault} (Ok []) (Ok ws) = rw (le-ltb m (length t) l) at e in
    let k : v ∷ [] ≡ vs = cc in
    subst (λ x. Joined x vs) (take_all m t l) (subst (Joined _) k (one (take m t) v (group_from (take m t) v g)))

joined_from : (n p : ℕ) (t vs : List ℕ) → length t ≤ n → groups (split 58 p t) ≡ Ok vs → Joined t vs
joined_from zero p [] vs h e = refused e
joined_from zero p (x ∷ xs) vs h e = absurd (omega arith)
joined_from (suc n) p t vs h e =
    let o = ok_first _ _ vs (ap groups (sym (split_is 58 p t)) ∙ e) in
    joined_step n p (before 58 t) t vs o.1 o.0 refl h (ok_group p _ o.0 o.2) o.3 o.4 (λ q us xs l r. joined_from n q us xs l r) (cases_lt (before 58 t) (length t))

side_from : (p : ℕ) (t vs : List ℕ) → groups (side p t) ≡ Ok vs → Side t vs
side_from p [] vs e = subst (Side []) (same_ok e) none
side_from p (x ∷ xs) vs e = some (x ∷ xs) vs (joined_from (suc (length xs)) p (x ∷ xs) vs (omega arith) e)

-- a text is what stands before its first `::`, that `::`, and the rest
gap_cut : (t : List ℕ) → before_gap_of t < length t → take (before_gap_of t) t ++ (58 ∷ 58 ∷ drop (suc (suc (before_gap_of t))) t) ≡ t
gap_cut [] h = absurd (omega arith)
gap_cut (x ∷ []) h = absurd (omega arith)
gap_cut (x ∷ y ∷ ys) h = go (eqb x 58 && eqb y 58) refl h (λ l. gap_cut (y ∷ ys) l)
  where
    go : (b : Bool) → (eqb x 58 && eqb y 58) ≡ b → cond b 0 (suc (before_gap_of (y ∷ ys))) < suc (suc (length ys)) → (before_gap_of (y ∷ ys) < suc (length ys) → take (before_gap_of (y ∷ ys)) (y ∷ ys) ++ (58 ∷ 58 ∷ drop (suc (suc (before_gap_of (y ∷ ys)))) (y ∷ ys)) ≡ y ∷ ys) → take (cond b 0 (suc (before_gap_of (y ∷ ys)))) (x ∷ y ∷ ys) ++ (58 ∷ 58 ∷ drop (suc (suc (cond b 0 (suc (before_gap_of (y ∷ ys)))))) (x ∷ y ∷ ys)) ≡ x ∷ y ∷ ys
    go true e l f =
        let a = and_parts (eqb x 58) (eqb y 58) e in
        let m : x ≡ 58 = eqb-true x 58 a.0 in
        let n : y ≡ 58 = eqb-true y 58 a.1 in
        rw (m, n) refl
    go false e l f = ap (λ zs. x ∷ zs) (f (omega arith))

plain_from : (r : Result (List ℕ) GroupFault) (gs : List ℕ) → plain r ≡ Ok gs → (r ≡ Ok gs) × (length gs ≡ 8)
plain_from (Err e) gs h = refused h
plain_from (Ok vs) gs h = go (eqb (length vs) 8) refl h
  where
    go : (b : Bool) → eqb (length vs) 8 ≡ b → cond b (Ok vs) (Err (Count 0)) ≡ Ok gs → (◌≡◌ {A = Result (List ℕ) GroupFault} (Ok vs) (Ok gs)) × (length gs ≡ 8)
    go true e h = let k : vs ≡ gs = same_ok h in (ap Ok k, sym (ap length k) ∙ eqb-true (length vs) 8 e)
    go false e h = refused h

gapped_from : (l r : List ℕ) (x y : Result (List ℕ) GroupFault) (gs : List ℕ) → ((ls : List ℕ) → x ≡ Ok ls → Side l ls) → ((rs : List ℕ) → y ≡ Ok rs → Side r rs) → gapped x y ≡ Ok gs → Spells (l ++ (58 ∷ 58 ∷ r)) gs
gapped_from l r (Err e) y gs f g h = refused h
gapped_from l r (Ok ls) (Err e) gs f g h = refused h
gapped_from l r (Ok ls) (Ok rs) gs f g h = go (leb (length ls + length rs) 7) refl h
  where
    go : (b : Bool) → leb (length ls + length rs) 7 ≡ b → cond b (Ok (ls ++ (replicate (8 - (length ls + length rs)) 0 ++ rs))) (Err (Count 0)) ≡ Ok gs → Spells (l ++ (58 ∷ 58 ∷ r)) gs
    go true e h =
        let m = leb-true (length ls + length rs) 7 e in
        let k : ls ++ (replicate (8 - (length ls + length rs)) 0 ++ rs) ≡ gs = same_ok h in
        subst (Spells _) k (short l ls r rs (8 - (length ls + length rs)) (f ls refl) (g rs refl) (omega arith) (omega arith))
    go false e h = refused h

spelled : (t gs : List ℕ) → address_groups t ≡ Ok gs → Spells t gs
spelled t gs h = go (ltb (before_gap_of t) (length t)) refl h
  where
    go : (b : Bool) → ltb (before_gap_of t) (length t) ≡ b → cond b (gapped (groups (side 0 (take (before_gap_of t) t))) (groups (side (before_gap_of t + 2) (drop (before_gap_of t + 2) t)))) (plain (groups (split 58 0 t))) ≡ Ok gs → Spells t gs
    go true e h =
        let q : before_gap_of t + 2 ≡ suc (suc (before_gap_of t)) = omega arith in
        let k : take (before_gap_of t) t ++ (58 ∷ 58 ∷ drop (before_gap_of t + 2) t) ≡ t = rw q (gap_cut t (ltb-true (before_gap_of t) (length t) e)) in
        subst (λ x. Spells x gs) k (gapped_from (take (before_gap_of t) t) (drop (before_gap_of t + 2) t) _ _ gs (λ ls. side_from 0 _ ls) (λ rs. side_from _ _ rs) h)
    go false e h = let r = plain_from (groups (split 58 0 t)) gs h in full t gs (joined_from (length t) 0 t gs (omega arith) r.0) r.1

pub spelling_to : (t : List ℕ) (a : ℕ) → Spelling t a → address t ≡ Ok a
spelling_to t a s = ap numbered (accepted s.spells) ∙ ap Ok (sym s.value)

pub spelling_from : (t : List ℕ) (a : ℕ) → address t ≡ Ok a → Spelling t a
spelling_from t a e = go (address_groups t) refl e
  where
    go : (r : Result (List ℕ) AddressFault) → address_groups t ≡ r → numbered r ≡ Ok a → Spelling t a
    go (Ok gs) h e = record { groups = gs; spells = spelled t gs h; value = sym (same_ok e) }
    go (Err d) h e = refused e

-- an answer that is the address
pub accepts_spelling : (t : List ℕ) (r : Result ℕ AddressFault) → r ≡ address t → Accepts r (Spelling t)
accepts_spelling t r e a = (λ h. spelling_from t a (sym e ∙ h), λ s. e ∙ spelling_to t a s)
