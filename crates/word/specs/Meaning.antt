-- What each call of a word engine does to the meaning of its registers.
use Rattle.std.specs.Prelude.{◌≡◌, ℕ, zero, suc, ◌+◌, ◌-◌, ◌*◌, ◌/◌, ◌%◌, ◌^◌, ◌<◌, ◌≤◌, Bool, true, false, cond, not, ◌&&◌, ◌≢◌, ◌⊎◌, List, length, replicate, Ok, ◌==◌, nat_le, slice_index, slice_index_or, slice_set, refl}
use Rattle.std.proofs.Common.{sym, ap, ◌∙◌, inl, inr, arith, mod-eq_of_lt, lit<, get_or-set_same, get_or-set_other, eqb-true, le-leb}
use Rattle.std.proofs.Math.Path.{fun_ext}
use Rattle.std.proofs.Math.Nat.{pow-le-pow_right}
use Rattle.std.specs.Int.Bits.{bit_and, bit_xor, mask_lt}
use Rattle.std.proofs.lemmas.Bool.{eq-eqb, cases_eq, eqb-false}
use Rattle.std.proofs.lemmas.Nat.{shr_below, and_mask}
use Rattle.engine.specs.Ops.{Bits, Agree, Op, Regs, put, held, within, after, bit_at, spelt}
use Rattle.engine.specs.Does.{Does, View, Tests, answer}
use Rattle.engine.proofs.Tables.{each}
use Rattle.word.specs.Words.{bit, means, whole, word_regs, word_view, written, blank, roomy, table, spell, word_at}
use Rattle.word.specs.Bits.{apart, bit_of_and, bit_of_xor, mux, shr_bit, shl_bit, low_bit, zero_bit, ones_bit, same_number, number_none, number_mod, alike, columns}
use Rattle.word.specs.Spelling.{same_spelt, spelt_below, below_64, spelt_bit, spelt_held, spelt_spell, spelt_byte}

-- only variables 1 to n matter
pub same_regs : (n : ℕ) (ws : List ℕ) (r : ℕ) (s t : Bits) → Agree n s t → word_regs n ws r s ≡ word_regs n ws r t
same_regs n ws r s t h = ap (λ (i : ℕ). cond (nat_le r 15) (bit (slice_index ws r) i) false) (same_spelt n s t h)

-- one of the sixteen is the function that its word means
pub reg_at : (n : ℕ) (ws : List ℕ) (a : ℕ) → a ≤ 15 → means n (slice_index ws a) ≡ word_regs n ws a
reg_at n ws a h = fun_ext λ s. rw (le-leb a 15 h) refl

-- sixteen words that are 0
pub blanks : (n m : ℕ) → m ≡ n → word_view m (replicate 16 0) ≡ blank n
blanks n m e = ap (λ (k : ℕ). word_view k (replicate 16 0)) e ∙ ap (λ (f : Regs). record { vars = n; regs = f; shape = tt }) (fun_ext λ r. fun_ext λ s. go r s (nat_le r 15))
  where
    none : (k r : ℕ) → ◌≡◌ {A = ℕ} (slice_index (replicate k 0) r) 0
    none zero r = refl
    none (suc k) zero = refl
    none (suc k) (suc r) = none k r

    go : (r : ℕ) (s : Bits) (b : Bool) → cond b (means n (slice_index (replicate 16 0) r) s) false ≡ false
    go r s true = ap (λ (w : ℕ). means n w s) (none 16 r) ∙ zero_bit (spelt n s)
    go r s false = refl

-- the bits below 2 ^ n of a word mean what the word means
kept_means : (n w : ℕ) (s : Bits) → means n (bit_and w (whole n)) s ≡ means n w s
kept_means n w s = ap (λ (x : ℕ). means n x s) (and_mask w (2 ^ n)) ∙ low_bit w (2 ^ n) (spelt n s) (spelt_below n s)

-- a word that is written, without its bits from 2 ^ n on
pub writes : (n d w m : ℕ) (ws : List ℕ) → d ≤ 15 → length ws ≡ 16 → m ≡ whole n → word_view n (slice_set ws d (bit_and w m)) ≡ written (word_view n ws) d w
writes n d w m ws h k full = ap (λ (m : ℕ). word_view n (slice_set ws d (bit_and w m))) full ∙ ap (λ (m : Regs). record { vars = n; regs = m; shape = tt }) (fun_ext λ r. fun_ext λ s. at r s (r == d) refl)
  where
    at : (r : ℕ) (s : Bits) (b : Bool) → (r == d) ≡ b → word_regs n (slice_set ws d (bit_and w (whole n))) r s ≡ put (word_regs n ws) d (means n w) r s
    at r s true e =
        let q : r ≡ d = eqb-true r d e in
        let lt : d < length ws = omega arith in
        rw (e, q, le-leb d 15 h, get_or-set_same) (kept_means n w s)
    at r s false e = let ne : r ≢ d = λ q. eqb-false r d e q in rw (e, get_or-set_other) refl

-- a call that writes a word of the right meaning
does : (op : Op) (n d w : ℕ) (ws : List ℕ) (e : View (Unit {0})) (f : Bits → Bool) → e ≡ written (word_view n ws) d w → means n w ≡ f
    → answer {A = Unit {0}} tt n false op ≡ Ok tt → after op (word_regs n ws) ≡ put (word_regs n ws) d f → Does {A = Unit {0}} roomy op tt (word_view n ws) e (Ok tt)
does op n d w ws e f wrote right told becomes = record {
  told = sym told;
  left = wrote ∙ ap (λ (g : Bits → Bool). record { vars = n; regs = put (word_regs n ws) d g; shape = tt }) right ∙ ap (λ (m : Regs). record { vars = n; regs = m; shape = tt }) (sym becomes);
}

pub negates : (n d a m : ℕ) (ws : List ℕ) (e : View (Unit {0})) → d ≤ 15 → a ≤ 15 → m ≡ whole n → e ≡ written (word_view n ws) d (bit_xor m (slice_index ws a)) → Does {A = Unit {0}} roomy (Op.negate d a) tt (word_view n ws) e (Ok tt)
negates n d a m ws e hd ha full wrote = does (Op.negate d a) n d (bit_xor m (slice_index ws a)) ws e (λ s. not (word_regs n ws a s)) wrote (fun_ext right) (rw (le-leb d 15 hd, le-leb a 15 ha) refl) refl
  where
    right : (s : Bits) → means n (bit_xor m (slice_index ws a)) s ≡ not (word_regs n ws a s)
    right s =
        bit_of_xor m (slice_index ws a) (spelt n s)
        ∙ ap (λ (b : Bool). apart b (means n (slice_index ws a) s)) (ap (λ (x : ℕ). means n x s) full ∙ ones_bit (2 ^ n) (spelt n s) (spelt_below n s))
        ∙ ap (λ (f : Bits → Bool). not (f s)) (reg_at n ws a ha)

pub meets : (n d a b : ℕ) (ws : List ℕ) (e : View (Unit {0})) → d ≤ 15 → a ≤ 15 → b ≤ 15 → e ≡ written (word_view n ws) d (bit_and (slice_index ws a) (slice_index ws b)) → Does {A = Unit {0}} roomy (Op.meet d a b) tt (word_view n ws) e (Ok tt)
meets n d a b ws e hd ha hb wrote = does (Op.meet d a b) n d (bit_and (slice_index ws a) (slice_index ws b)) ws e (λ s. word_regs n ws a s && word_regs n ws b s) wrote (fun_ext right) (rw (le-leb d 15 hd, le-leb a 15 ha, le-leb b 15 hb) refl) refl
  where
    right : (s : Bits) → means n (bit_and (slice_index ws a) (slice_index ws b)) s ≡ (word_regs n ws a s && word_regs n ws b s)
    right s = bit_of_and (slice_index ws a) (slice_index ws b) (spelt n s) ∙ sym (rw (le-leb a 15 ha, le-leb b 15 hb) refl)

pub evaluates : (n a : ℕ) (ws bytes : List ℕ) → n ≤ 6 → a ≤ 15 → slice_index bytes 0 < 256 → Does {A = Bool} roomy (Op.evaluate a (within n (bit_at bytes))) (word_regs n ws a (bit_at bytes)) (word_view n ws) (word_view n ws) (Ok (bit (slice_index ws a) (slice_index bytes 0 / 2 ^ (8 - n))))
evaluates n a ws bytes hn ha small = record {
  told = rw (le-leb a 15 ha) (ap Ok (ap (λ (i : ℕ). bit (slice_index ws a) i) (sym (spelt_byte n bytes small (omega arith)))));
  left = refl;
}

-- the top n bits of a byte are below 64
pub place_below : (x n : ℕ) → x < 256 → n ≤ 6 → x / 2 ^ (8 - n) < 64
place_below x n h hn =
    let e : n + (8 - n) ≡ 8 = omega arith in
    let l : x < 2 ^ (n + (8 - n)) = rw e h in
    let p : 2 ^ n ≤ 2 ^ 6 = pow-le-pow_right (lit< tt) hn in
    omega (arith, shr_below x n (8 - n) l)

pub foralls : (n d a v m w x y : ℕ) (ws : List ℕ) (e : View (Unit {0})) → d ≤ 15 → a ≤ 15 → 1 ≤ v → v ≤ m → m ≡ n → w ≡ slice_index ws a → means m x ≡ (λ s. means m w (held s v false)) → means m y ≡ (λ s. means m w (held s v true)) → e ≡ written (word_view n ws) d (bit_and x y) → Does {A = Unit {0}} roomy (Op.forall d a v) tt (word_view n ws) e (Ok tt)
foralls n d a v m w x y ws e hd ha lo hi same word low high wrote = let upper : v ≤ n = omega arith in does (Op.forall d a v) n d (bit_and x y) ws e (λ s. word_regs n ws a (held s v false) && word_regs n ws a (held s v true)) wrote both (rw (le-leb d 15 hd, le-leb a 15 ha, le-leb 1 v lo, le-leb v n upper) refl) refl
  where
    both : means n (bit_and x y) ≡ (λ s. word_regs n ws a (held s v false) && word_regs n ws a (held s v true))
    both =
        rw (← same)
        ((fun_ext λ s. bit_of_and x y (spelt m s))
        ∙ ap {B = Bits → Bool} (λ f s. f s && means m y s) low
        ∙ ap {B = Bits → Bool} (λ f s. means m w (held s v false) && f s) high
        ∙ rw word (ap {B = Bits → Bool} (λ f s. f (held s v false) && f (held s v true)) (reg_at m ws a ha)))

-- a word without bits from 2 ^ n on is the word of the function that it means
pub word_table : (n w : ℕ) → w < 2 ^ 2 ^ n → w ≡ table n (means n w)
word_table n w h = sym (mod-eq_of_lt h) ∙ sym (number_mod (2 ^ n) w) ∙ same_number (2 ^ n) (λ i. bit w i) (λ i. means n w (spell n i)) (λ i l. ap (λ (j : ℕ). bit w j) (sym (spelt_spell n i ∙ mod-eq_of_lt l)))

pub tells : (n a : ℕ) (ws : List ℕ) → a ≤ 15 → ((r : ℕ) → slice_index ws r < 2 ^ 2 ^ n) → Ok (slice_index ws a) ≡ word_at (word_view n ws) a
tells n a ws ha small = rw (le-leb a 15 ha) (ap Ok (word_table n (slice_index ws a) (small a)))

-- a register is empty exactly where its word is 0
pub tests : (n a : ℕ) (ws : List ℕ) → a ≤ 15 → ((r : ℕ) → slice_index ws r < 2 ^ 2 ^ n) → Tests roomy a (word_view n ws) (word_view n ws) (Ok (slice_index ws a == 0))
tests n a ws ha small = record {
  yes_no = (slice_index ws a == 0);
  says = (λ e. none (eqb-true (slice_index ws a) 0 e), λ h. eq-eqb (slice_index ws a) 0 (zeroed h));
  does = record { told = rw (le-leb a 15 ha) refl; left = refl };
}
  where
    none : slice_index_or ws a 0 ≡ 0 → (s : Bits) → word_regs n ws a s ≡ false
    none e s = ap (λ (f : Bits → Bool). f s) (sym (reg_at n ws a ha)) ∙ ap (λ (w : ℕ). means n w s) e ∙ zero_bit (spelt n s)

    zeroed : ((s : Bits) → word_regs n ws a s ≡ false) → slice_index ws a ≡ 0
    zeroed h = word_table n (slice_index ws a) (small a) ∙ ap (λ (f : Bits → Bool). table n f) (reg_at n ws a ha ∙ fun_ext h) ∙ number_none (2 ^ n)

-- the word whose bit i is bit n - v of i means the variable v
pub means_variable : (n v m k : ℕ) → n ≤ 6 → 1 ≤ v → v ≤ n → n - v ≡ k → each 64 (λ i. alike (bit m i) (bit i k)) ≡ true → means n m ≡ (λ s. s v)
means_variable n v m k hn lo hi e all = fun_ext λ s. columns m k all (spelt n s) (below_64 n s hn) ∙ ap (λ (j : ℕ). bit (spelt n s) j) (sym e) ∙ spelt_bit n v s lo hi

-- a word with the variable v held at 1: where v is 0 the bit that lies t higher
pub held_high : (n v w m t : ℕ) (b : Bool) → n ≤ 6 → 1 ≤ v → v ≤ n → means n m ≡ (λ s. s v) → t ≡ 2 ^ (n - v) → b ≡ true → means n (bit_xor (w / 2 ^ t) (bit_and (bit_xor w (w / 2 ^ t)) m)) ≡ (λ s. means n w (held s v b))
held_high n v w m t b hn lo hi column et eb = fun_ext λ s.
    mux w (w / 2 ^ t) m (spelt n s)
    ∙ ap (λ (f : Bits → Bool). cond (f s) (means n w s) (means n (w / 2 ^ t) s)) column
    ∙ go s (s v) b (spelt n (held s v b)) eb (spelt_held n v b s lo hi)
  where
    go : (s : Bits) (p q : Bool) (x : ℕ) → q ≡ true → x + cond p (2 ^ (n - v)) 0 ≡ spelt n s + cond q (2 ^ (n - v)) 0 → cond p (means n w s) (means n (w / 2 ^ t) s) ≡ bit w x
    go s true true x e h = let z : spelt n s ≡ x = omega arith in ap (λ (i : ℕ). bit w i) z
    go s false true x e h = let z : spelt n s + t ≡ x = omega arith in shr_bit w t (spelt n s) ∙ ap (λ (i : ℕ). bit w i) z
    go s true false x e h = absurd (cc)
    go s false false x e h = absurd (cc)

-- a word with the variable v held at 0: where v is 1 the bit that lies t lower
pub held_low : (n v w m t : ℕ) (b : Bool) → n ≤ 6 → 1 ≤ v → v ≤ n → means n m ≡ (λ s. s v) → t ≡ 2 ^ (n - v) → b ≡ false → means n (bit_xor w (bit_and (bit_xor ((w * 2 ^ t) % 2 ^ 64) w) m)) ≡ (λ s. means n w (held s v b))
held_low n v w m t b hn lo hi column et eb = fun_ext λ s.
    mux ((w * 2 ^ t) % 2 ^ 64) w m (spelt n s)
    ∙ ap (λ (f : Bits → Bool). cond (f s) (means n ((w * 2 ^ t) % 2 ^ 64) s) (means n w s)) column
    ∙ go s (s v) b (spelt n (held s v b)) eb (spelt_held n v b s lo hi) (below_64 n s hn)
  where
    go : (s : Bits) (p q : Bool) (x : ℕ) → q ≡ false → x + cond p (2 ^ (n - v)) 0 ≡ spelt n s + cond q (2 ^ (n - v)) 0 → spelt n s < 64 → cond p (means n ((w * 2 ^ t) % 2 ^ 64) s) (means n w s) ≡ bit w x
    go s true false x e h l = let z : spelt n s ≡ x + t = omega arith in ap (λ (i : ℕ). bit ((w * 2 ^ t) % 2 ^ 64) i) z ∙ shl_bit w t x 64 (omega arith)
    go s false false x e h l = let z : spelt n s ≡ x = omega arith in ap (λ (i : ℕ). bit w i) z
    go s true true x e h l = absurd (cc)
    go s false true x e h l = absurd (cc)

-- bits from 2 ^ n on stay zero
pub kept_small : (n : ℕ) (ws : List ℕ) (d w m : ℕ) → length ws ≡ 16 → d ≤ 15 → m ≡ whole n → ((r : ℕ) → slice_index ws r < 2 ^ 2 ^ n) → (r : ℕ) → slice_index (slice_set ws d (bit_and w m)) r < 2 ^ 2 ^ n
kept_small n ws d w m k h e small r = go (cases_eq r d)
  where
    go : (r ≡ d) ⊎ (r ≢ d) → slice_index (slice_set ws d (bit_and w m)) r < 2 ^ 2 ^ n
    go (inl q) = let lt : d < length ws = omega arith in rw (q, get_or-set_same, e) (mask_lt w (2 ^ n))
    go (inr q) = let ne : r ≢ d = q in rw get_or-set_other (small r)

pub copies : (n d a : ℕ) (ws : List ℕ) (e : View (Unit {0})) → d ≤ 15 → a ≤ 15 → e ≡ written (word_view n ws) d (slice_index ws a) → Does {A = Unit {0}} roomy (Op.copy d a) tt (word_view n ws) e (Ok tt)
copies n d a ws e hd ha wrote = does (Op.copy d a) n d (slice_index ws a) ws e (word_regs n ws a) wrote (reg_at n ws a ha) (rw (le-leb d 15 hd, le-leb a 15 ha) refl) refl

pub literals : (n d v w : ℕ) (ws : List ℕ) (e : View (Unit {0})) → d ≤ 15 → 1 ≤ v → v ≤ n → means n w ≡ (λ s. s v) → e ≡ written (word_view n ws) d w → Does {A = Unit {0}} roomy (Op.literal d v) tt (word_view n ws) e (Ok tt)
literals n d v w ws e hd lo hi right wrote = does (Op.literal d v) n d w ws e (λ s. s v) wrote right (rw (le-leb d 15 hd, le-leb 1 v lo, le-leb v n hi) refl) refl

pub fixes : (n d a v w : ℕ) (b : Bool) (ws : List ℕ) (e : View (Unit {0})) → d ≤ 15 → a ≤ 15 → 1 ≤ v → v ≤ n → means n w ≡ (λ s. means n (slice_index ws a) (held s v b)) → e ≡ written (word_view n ws) d w → Does {A = Unit {0}} roomy (Op.fix d a v b) tt (word_view n ws) e (Ok tt)
fixes n d a v w b ws e hd ha lo hi fixed wrote = does (Op.fix d a v b) n d w ws e (λ s. word_regs n ws a (held s v b)) wrote (fixed ∙ ap {B = Bits → Bool} (λ f s. f (held s v b)) (reg_at n ws a ha)) (rw (le-leb d 15 hd, le-leb a 15 ha, le-leb 1 v lo, le-leb v n hi) refl) refl
