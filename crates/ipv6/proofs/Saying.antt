-- Rule lines are read exactly as their grammar says, and what is not read is refused.
use Rattle.std.proofs.Common.{◌≡◌, ℕ, suc, ◌+◌, ◌<◌, ◌≤◌, eqb, List, [], ◌∷◌, ◌++◌, length, take, Some, None, Ok, Err, Option, Result, sym, refl, ap, ◌∙◌, subst, arith, length-append}
use Rattle.std.proofs.lemmas.Bool.{cond_both, eqb-true}
use Rattle.text.specs.declared.fault.LineFault.{LineFault}
use Rattle.text.specs.declared.fault.LineFault.TheVariants as line
use Rattle.text.specs.Split.{Part, before, grow, split}
use Rattle.text.specs.Lines.{Parts, line_fields}
use Rattle.text.proofs.Clears.{split_without, split_first}
use Rattle.text.proofs.Parts.{behind, split_is}
use Rattle.address.specs.declared.fault.AddressFault.{AddressFault}
use Rattle.address.specs.declared.prefix.Prefix.{Prefix}
use Rattle.address.specs.Prefix.{prefix, in_line}
use Rattle.address.specs.Grammar.{PrefixText, Accepts}
use Rattle.address.proofs.Prefixes.{accepts_prefix}
use Rattle.address.proofs.Barring.{refuses_prefix}
use Rattle.kind.specs.declared.rule.Action.{Action}
use Rattle.kind.specs.declared.rule.Rule.{Rule}
use Rattle.kind.specs.declared.fault.PortFault.{PortFault}
use Rattle.kind.specs.declared.fault.PortFault.TheVariants.{Number}
use Rattle.kind.specs.declared.fault.RuleFault.{RuleFault}
use Rattle.kind.specs.declared.fault.RuleFault.TheVariants as fault
use Rattle.kind.specs.Actions.{action_word, action_of}
use Rattle.ipv6.specs.declared.said.Said.{Said}
use Rattle.ipv6.specs.Lines.{port_at, given_port, port_of, said_of, parts_said, unless_fault, line_said, ruled, ipv6_rule}
use Rattle.ipv6.specs.Grammar.{PortText, LineText, any_port, one_port, RuleText}
use Rattle.ipv6.specs.Refusals.{fields, NoneEmpty, none, more, TwoOrThree, two, three, HasFields, RuleRefused, no_fields, no_action, no_prefix, no_port}
use Rattle.ipv6.proofs.Clear.{decimal_clear, prefix_clear, word_clear, prefix_some, word_some}
use Rattle.ipv6.proofs.Fielding.{Fielded, fielded, fields_to}
use Rattle.ipv6.proofs.Words.{Found, Says, word_found, word_to, port_found, port_to}

-- the parts of a text with the byte between them
abbrev joins : ℕ → List Part → List ℕ
joins c [] = []
joins c (f ∷ []) = f.text
joins c (f ∷ g ∷ fs) = f.text ++ (c ∷ joins c (g ∷ fs))

join_grow : (c p x : ℕ) (f : Part) (fs : List Part) → joins c (grow p x (f ∷ fs)) ≡ x ∷ joins c (f ∷ fs)
join_grow c p x f [] = refl
join_grow c p x f (g ∷ fs) = refl

joined_is : (c p : ℕ) (xs : List ℕ) → joins c (split c p xs) ≡ xs
joined_is c p [] = refl
joined_is c p (x ∷ xs) =
    let f : Part = record { place = p + 1; text = take (before c xs) xs } in
    let fs : List Part = behind c (p + 1) (before c xs) xs in
    let s : split c (p + 1) xs ≡ f ∷ fs = split_is c (p + 1) xs in
    let h : joins c (f ∷ fs) ≡ xs = ap (joins c) (sym s) ∙ joined_is c (p + 1) xs in
    cond_both (eqb x c) (record { place = p; text = [] } ∷ split c (p + 1) xs) (grow p x (split c (p + 1) xs)) (λ l. joins c l ≡ x ∷ xs)
    (λ e. rw s (cc (eqb-true x c e, h)))
    (λ e. rw s (join_grow c p x f fs ∙ ap (λ l. x ∷ l) h))

-- the port that a field says, if there is a field for one
abbrev Ported : Option Part → Option ℕ → Type 0
Ported None q = None ≡ q
Ported (Some f) q = (n : ℕ) × PortText f.text n × (Some n ≡ q)

abbrev Third : Option Part → Result (Option ℕ) PortFault → Type 0
Third o (Ok q) = Ported o q
Third o (Err d) = (f : Part) × (o ≡ Some f) × (Number f.place ≡ d) × ((q : ℕ) → PortText f.text q → ⊥)

third : (o : Option Part) → Third o (port_of o)
third None = refl
third (Some f) = go (port_at f) (port_found f.place f.text)
  where
    go : (r : Result ℕ PortFault) → Found (PortText f.text) (Number f.place) r → Third (Some f) (given_port r)
    go (Ok n) h = (n, h, refl)
    go (Err d) h = (f, refl, h.0, h.1)

-- what the fields say
record Told (p : Parts) (s : Said) : Type 0 where
  word : Says p.action.text s.action
  prefix : PrefixText p.second.text s.prefix
  port : Ported p.third s.port

abbrev Sorted : List ℕ → Parts → Result Said RuleFault → Type 0
Sorted text p (Ok s) = Told p s
Sorted text p (Err f) = RuleRefused text f

pub prefix_to : (start : ℕ) (t : List ℕ) (x : Prefix) → PrefixText t x → in_line start (prefix t) ≡ Ok x
prefix_to start t x h = (accepts_prefix start t (in_line start (prefix t)) refl x).1 h

pub prefix_from : (start : ℕ) (t : List ℕ) (x : Prefix) → in_line start (prefix t) ≡ Ok x → PrefixText t x
prefix_from start t x e = (accepts_prefix start t (in_line start (prefix t)) refl x).0 e

sorted : (text : List ℕ) (p : Parts) → HasFields text p → Sorted text p (parts_said p)
sorted text p i = go (action_of p.action.text p.action.place) (in_line p.second.place (prefix p.second.text)) (port_of p.third) (word_found p.action.text p.action.place) refl (third p.third)
  where
    go : (w : Result Action LineFault) (x : Result Prefix AddressFault) (q : Result (Option ℕ) PortFault) → Found (Says p.action.text) (line.Action p.action.place) w → in_line p.second.place (prefix p.second.text) ≡ x → Third p.third q → Sorted text p (said_of w x q)
    go (Err d) x q a b c = subst (λ (z : LineFault). RuleRefused text (fault.Line z)) a.0 (no_action p i a.1)
    go (Ok w) (Err d) q a b c = no_prefix p w d i a ((refuses_prefix p.second.place p.second.text (in_line p.second.place (prefix p.second.text)) refl d).0 b)
    go (Ok w) (Ok x) (Err d) a b (f, e, z, n) = subst (λ (y : PortFault). RuleRefused text (fault.Port y)) z (no_port p w x f i a (prefix_from p.second.place p.second.text x b) e n)
    go (Ok w) (Ok x) (Ok q) a b c = record { word = a; prefix = prefix_from p.second.place p.second.text x b; port = c }

-- a line of fields that say it
fields_line : {fs : List Part} {p : Parts} (s : Said) → TwoOrThree fs p → Told p s → LineText (joins 32 fs) s
fields_line s (two a b) t =
    rw t.word (subst (λ (q : Option ℕ). LineText (action_word s.action ++ (32 ∷ b.text)) (record { action = s.action; prefix = s.prefix; port = q })) t.port (any_port s.action b.text s.prefix t.prefix))
fields_line s (three a b c) t =
    rw t.word (subst (λ (q : Option ℕ). LineText (action_word s.action ++ (32 ∷ (b.text ++ (32 ∷ c.text)))) (record { action = s.action; prefix = s.prefix; port = q })) t.port.2 (one_port s.action b.text c.text s.prefix t.port.0 t.prefix t.port.1))

-- a line says something, or is refused
abbrev pub LineSorted : List ℕ → Result Said RuleFault → Type 0
LineSorted text (Ok s) = LineText text s × (length text ≤ 80)
LineSorted text (Err f) = RuleRefused text f

pub line_sorted : (text : List ℕ) → LineSorted text (line_said text)
line_sorted text = go (line_fields text) (fielded text)
  where
    said : (p : Parts) → HasFields text p → (r : Result Said RuleFault) → Sorted text p r → LineSorted text r
    said p i (Ok s) t = (rw (joined_is 32 0 text) at (fields_line s i.are t), i.sized.few)
    said p i (Err f) h = h

    go : (r : Result Parts LineFault) → Fielded text r → LineSorted text (unless_fault r)
    go (Err f) u = no_fields f u
    go (Ok p) i = said p i (parts_said p) (sorted text p i)

-- the fields of a line that says it
has_fields : (text : List ℕ) (fs : List Part) (p : Parts) → fields text ≡ fs → 0 < length text → length text ≤ 80 → NoneEmpty fs → TwoOrThree fs p → HasFields text p
has_fields text fs p e l m n t = record { sized = record { some = l; few = m }; full = rw e n; are = rw e t }

said_to : (text : List ℕ) (s : Said) → LineText text s → length text ≤ 80 → line_said text ≡ Ok s
said_to text s (any_port a t x h) l =
    let w : List ℕ = action_word a in
    let o : List ℕ = w ++ (32 ∷ t) in
    let f : Part = record { place = 0; text = w } in
    let g : Part = record { place = suc (0 + length w); text = t } in
    let p : Parts = record { action = f; second = g; third = None } in
    let e : fields o ≡ f ∷ g ∷ [] = split_first 32 0 w t (word_clear a) ∙ ap (λ z. f ∷ z) (split_without 32 g.place t (prefix_clear h)) in
    let i : HasFields o p = has_fields o (f ∷ g ∷ []) p e (omega (arith, length-append w (32 ∷ t))) l (more f (g ∷ []) (word_some a) (more g [] (prefix_some h) none)) (two f g) in
    ap unless_fault (fields_to o i) ∙ rw (word_to a w 0 refl, prefix_to g.place t x h) refl
said_to text s (one_port a t d x q h n) l =
    let w : List ℕ = action_word a in
    let o : List ℕ = w ++ (32 ∷ (t ++ (32 ∷ d))) in
    let f : Part = record { place = 0; text = w } in
    let g : Part = record { place = suc (0 + length w); text = t } in
    let k : Part = record { place = suc (g.place + length t); text = d } in
    let p : Parts = record { action = f; second = g; third = Some k } in
    let e : fields o ≡ f ∷ g ∷ k ∷ [] = split_first 32 0 w (t ++ (32 ∷ d)) (word_clear a) ∙ ap (λ z. f ∷ z) (split_first 32 g.place t d (prefix_clear h) ∙ ap (λ z. g ∷ z) (split_without 32 k.place d (decimal_clear n.decimal))) in
    let i : HasFields o p = has_fields o (f ∷ g ∷ k ∷ []) p e (omega (arith, length-append w (32 ∷ (t ++ (32 ∷ d))))) l (more f (g ∷ k ∷ []) (word_some a) (more g (k ∷ []) (prefix_some h) (more k [] n.decimal.writes.some none))) (three f g k) in
    ap unless_fault (fields_to o i) ∙ rw (word_to a w 0 refl, prefix_to g.place t x h, port_to k.place n) refl

-- an answer that is the rule
pub accepts_rule : (text : List ℕ) (r : Result Rule RuleFault) → r ≡ ipv6_rule text → Accepts r (RuleText text)
accepts_rule text r e x = (
  λ h. go (line_said text) (line_sorted text) (sym e ∙ h),
  λ t. e ∙ ap ruled (said_to text t.said t.says t.few) ∙ ap Ok (sym t.rule),
)
  where
    go : (o : Result Said RuleFault) → LineSorted text o → ruled o ≡ Ok x → RuleText text x
    go (Err f) l h = cc
    go (Ok s) l h = record { said = s; says = l.0; few = l.1; rule = cc }
