-- Boolean identities behind the rewrite rules (t-) and the table of conjunction (e-, m-).
use Rattle.std.proofs.Common.{◌≡◌, Bool, true, false, not, ◌&&◌, sym, refl, ◌∙◌}
use Rattle.diagram.specs.Values.{turned, mean}

pub t_one : (s g c : Bool) → turned s false ≡ mean s g false false c
t_one s true true = refl
t_one s false true = refl
t_one s g false = refl

pub t_two : (s g a b : Bool) → turned s false ≡ mean s g a b false
t_two s g a b = refl

pub t_three : (s g c : Bool) → turned s c ≡ mean s g true true c
t_three s true true = refl
t_three s false true = refl
t_three s g false = refl

pub t_four : (s g a : Bool) → turned s a ≡ mean s g a a true
t_four s true a = refl
t_four s false a = refl

pub t_five : (s g a : Bool) → mean s g true false a ≡ mean s g a false true
t_five s true true = refl
t_five s true false = refl
t_five s false true = refl
t_five s false false = refl

pub t_six : (s g b : Bool) → mean s g false true b ≡ mean s g false b true
t_six s true true = refl
t_six s true false = refl
t_six s false true = refl
t_six s false false = refl

pub t_seven : (s g a c : Bool) → mean s g a true c ≡ mean s g a c c
t_seven s g a true = refl
t_seven s g a false = refl

pub t_eight : (s g b c : Bool) → mean s g true b c ≡ mean s g c b c
t_eight s g b true = refl
t_eight s g b false = refl

pub t_nine : (g b : Bool) → mean false g false (not b) true ≡ mean true g true b true
t_nine true b = refl
t_nine false b = refl

pub t_ten : (g a : Bool) → mean false g (not a) false true ≡ mean true g a true true
t_ten true a = refl
t_ten false a = refl

pub not_not : (b : Bool) → not (not b) ≡ b
not_not true = refl
not_not false = refl

pub and_true : (b : Bool) → (b && true) ≡ b
and_true true = refl
and_true false = refl

pub and_false : (b : Bool) → (b && false) ≡ false
and_false true = refl
and_false false = refl

pub and_swap : (a b : Bool) → (a && b) ≡ (b && a)
and_swap true true = refl
and_swap true false = refl
and_swap false true = refl
and_swap false false = refl

pub turned_neg : (s r : Bool) → turned (not s) r ≡ not (turned s r)
turned_neg true r = sym (not_not r)
turned_neg false r = refl

e_neg : (p c q d : Bool) → not (not (not (p && c) && not (q && d))) ≡ (not (c && p) && not (d && q))
e_neg p c q d = not_not (not (p && c) && not (q && d)) ∙ (λ i. not (and_swap p c i) && not (and_swap q d i))

e_pos : (p c q d : Bool) → ((c && d) && (p && q)) ≡ ((c && p) && (d && q))
e_pos p false q d = refl
e_pos p true q true = refl
e_pos true true q false = refl
e_pos false true q false = refl

e_opp : (p c q d : Bool) → (c && (p && not (q && d))) ≡ ((c && p) && not (d && q))
e_opp p true q d = λ i. p && not (and_swap q d i)
e_opp p false q d = refl

e_under_pos : (p c t : Bool) → ((c && t) && p) ≡ ((c && p) && t)
e_under_pos p true t = and_swap t p
e_under_pos p false t = refl

e_under_neg : (p c t : Bool) → not (not (not c && t) && not (not p && t)) ≡ (not (c && p) && t)
e_under_neg p true t = not_not (not p && t)
e_under_neg p false true = refl
e_under_neg true false false = refl
e_under_neg false false false = refl

-- conjunction at two quadruples with the same variable, or over a part past it
pub m_neg : (g a b c a' b' c' : Bool)
    → mean true g (not (not (a && c) && not (a' && c'))) (not (not (b && c) && not (b' && c'))) true ≡ (mean true g a b c && mean true g a' b' c')
m_neg true a b c a' b' c' = e_neg b c b' c'
m_neg false a b c a' b' c' = e_neg a c a' c'

pub m_pos : (g a b c a' b' c' : Bool) → mean false g (a && a') (b && b') (c && c') ≡ (mean false g a b c && mean false g a' b' c')
m_pos true a b c a' b' c' = e_pos b c b' c'
m_pos false a b c a' b' c' = e_pos a c a' c'

pub m_opp : (g a b c a' b' c' : Bool) → mean false g (a && not (a' && c')) (b && not (b' && c')) c ≡ (mean false g a b c && mean true g a' b' c')
m_opp true a b c a' b' c' = e_opp b c b' c'
m_opp false a b c a' b' c' = e_opp a c a' c'

pub m_under_pos : (g a b c t : Bool) → mean false g a b (c && t) ≡ (mean false g a b c && t)
m_under_pos true a b c t = e_under_pos b c t
m_under_pos false a b c t = e_under_pos a c t

pub m_under_neg : (g a b c t : Bool) → mean true g (not (not a && t)) (not (not b && t)) (not (not c && t)) ≡ (mean true g a b c && t)
m_under_neg true a b c t = e_under_neg b c t
m_under_neg false a b c t = e_under_neg a c t
