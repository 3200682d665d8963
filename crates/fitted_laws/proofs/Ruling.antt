-- The rules of statements by the marks of their variables, and what the least widths make of them.
use Rattle.std.proofs.Common.{◌≡◌, ◌≢◌, ℕ, zero, suc, ◌+◌, ◌-◌, ◌<◌, ◌≤◌, Bool, true, false, List, [], ◌∷◌, ◌++◌, map, length, set, get_or, replicate, Option, Some, None, refl, sym, ap, ap₂, ◌∙◌, subst, arith, slice_get, ◌⊎◌, inl, inr, ⊎_elim}
use Rattle.std.proofs.lemmas.List.Elements.{Contains-get_or, Contains-append_cases}
use Rattle.std.specs.Prelude.{Contains, ⊤}
use Rattle.std.proofs.lemmas.Bool.{cases_eq}
use Rattle.std.proofs.lemmas.Option.{slice_get_within}
use Rattle.std.proofs.lemmas.List.{length-set, get_or-set_same, get_or-set_other}
use Rattle.prim_ops.specs.declared.widths.Width.{Width}
use Rattle.prim_ops.specs.declared.widths.Width.TheVariants.{Bits, Over}
use Rattle.fir_tree.specs.declared.part.Flow.{Flow}
use Rattle.fir_tree.specs.declared.part.Flow.TheVariants.{Source, Sink, Duplex}
use Rattle.fir_tree.specs.Parts.{flow_through}
use Rattle.width_rules.specs.declared.rule.Formula.{Formula}
use Rattle.width_rules.specs.declared.rule.Formula.TheVariants as formula
use Rattle.width_rules.specs.declared.rule.Rule.{Rule}
use Rattle.width_rules.specs.Formulas.{level, width_under}
use Rattle.width_rules.specs.Solutions.{IsWidth, level_at, MeetsOne, Meets, IsAssignment, AtOrBelow, IsLeast}
use Rattle.width_rules.specs.Places.{Spot, slot_of, is_open, slots_from, open_spots}
use Rattle.width_rules.specs.Sources.{formula_of}
use Rattle.width_rules.specs.Circuits.{at_least, driven, connected, zeroed, invalidated, node_rules}
use Rattle.width_rules.proofs.Bounds.{Each, each_append}
use Rattle.width_rules.proofs.FormulaLemmas.{width-Fixed, width-Var}
use Rattle.width_rules.proofs.Monotone.{width_is_width, width_grows}
use Rattle.width_fit.specs.Judging.{slot_width}
use Rattle.fir_names.proofs.Graphs.{some_same}
use Rattle.circuit_laws.proofs.Scoping.{get-either}
use Rattle.fitted_laws.proofs.Asyncs.{OneSlot, OneSlots, OneWidth, OneWidths}
use Rattle.fitted_laws.proofs.Steps.{Placed}
use Rattle.fitted_laws.proofs.Known.{Marks, Marked, RuleMarked, get_behind}
use Rattle.fitted_laws.proofs.Walking.{Solves, rule_of}
use Rattle.fir_names.proofs.Members.{Contains-first, Contains-later, Contains-none, Contains-one}

same_var : (x y : ℕ) → formula.Var x ≡ formula.Var y → x ≡ y
same_var x y e = cc

-- Formulas whose variables are no node's

abbrev pub IsFree : Marks → Formula → Type 0
IsFree ms f = (x : ℕ) → f ≡ formula.Var x → slice_get ms x ≡ Some None

pub free_placed : (ms : Marks) (flow : Flow) (ss : List Spot) (fs : List Formula) → Each (IsFree ms) fs → Placed (Marked ms) flow ss fs
free_placed ms flow [] fs h = tt
free_placed ms flow (s ∷ ss) [] h = tt
free_placed ms flow (s ∷ ss) (f ∷ fs) h = (λ x e. inl (h.0 x e), free_placed ms flow ss fs h.1)

slot_free : (ms : Marks) (n : ℕ) (width : Option ℕ) → ((x : ℕ) → n ≤ x → x < n + is_open width → slice_get ms x ≡ Some None) → IsFree ms (formula_of (slot_of n width))
slot_free ms n (Some w) h x e = absurd cc
slot_free ms n None h x e = let same : n ≡ x = same_var n x e in subst (λ y. slice_get ms y ≡ Some None) same (h n (omega arith) (omega arith))

pub slots_free : (ms : Marks) (n : ℕ) (ss : List Spot) → ((x : ℕ) → n ≤ x → x < n + open_spots ss → slice_get ms x ≡ Some None) → Each (IsFree ms) (map formula_of (slots_from n ss))
slots_free ms n [] h = tt
slots_free ms n (s ∷ ss) h = (
  slot_free ms n s.width (λ x a b. h x a (omega (arith, b))),
  slots_free ms (n + is_open s.width) ss (λ x a b. h x (omega (arith, a)) (omega (arith, b))),
)

pub length-slots : (n : ℕ) (ss : List Spot) → length (slots_from n ss) ≡ length ss
length-slots n [] = refl
length-slots n (s ∷ ss) = ap suc (length-slots (n + is_open s.width) ss)

get-none : (k x : ℕ) (o : Option Formula) → slice_get (replicate k None) x ≡ Some o → o ≡ None
get-none zero x o e = cc
get-none (suc k) zero o e = sym (some_same e)
get-none (suc k) (suc x) o e = get-none k x o e

none-get : (k x : ℕ) → x < k → ◌≡◌ {A = Option (Option Formula)} (slice_get (replicate k None) x) (Some None)
none-get zero x h = absurd (omega (arith, h))
none-get (suc k) zero h = refl
none-get (suc k) (suc x) h = none-get k x (omega (arith, h))

-- new variables that are no node's
pub free_marks : (ms : Marks) (n k : ℕ) → length ms ≡ n → (x : ℕ) → n ≤ x → x < n + k → slice_get (ms ++ replicate k None) x ≡ Some None
free_marks ms n k e x a b =
    let j : ℕ = x - n in
    let at : x ≡ length ms + j = omega (arith, e, a) in
    ap (slice_get (ms ++ replicate k None)) at ∙ get_behind ms (replicate k None) j ∙ none-get k j (omega (arith, a, b))

pub free_ruled : (ms : Marks) (k x : ℕ) (f : Formula) (rules : List Rule) → slice_get (ms ++ replicate k None) x ≡ Some (Some f) → (slice_get ms x ≡ Some (Some f)) ⊎ Contains rules (rule_of x f)
free_ruled ms k x f rules e = ⊎_elim (λ l. inl l) (λ r. absurd (let g : Some f ≡ None = get-none k r.0 (Some f) r.2 in cc)) (get-either ms (replicate k None) x (Some f) e)

-- Nodes

pub node_marks : (ms : Marks) (fs : List Formula) (n k : ℕ) (f : Formula) → length ms ≡ n → slice_get fs k ≡ Some f → slice_get (ms ++ map Some fs) (n + k) ≡ Some (Some f)
node_marks ms fs n k f e g = ap (λ m. slice_get (ms ++ map Some fs) (m + k)) (sym e) ∙ get_behind ms (map Some fs) k ∙ mapped fs k g where
  mapped : (fs : List Formula) (k : ℕ) → slice_get fs k ≡ Some f → slice_get (map Some fs) k ≡ Some (Some f)
  mapped [] k g = cc
  mapped (x ∷ fs) zero g = ap Some g
  mapped (x ∷ fs) (suc k) g = mapped fs k g

-- the formulas of the places that have variables
abbrev opened : Option ℕ → Formula → List Formula → List Formula
opened None f rest = f ∷ rest
opened (Some w) f rest = rest

abbrev pub open_formulas : List Spot → List Formula → List Formula
open_formulas [] fs = []
open_formulas (s ∷ ss) [] = []
open_formulas (s ∷ ss) (f ∷ fs) = opened s.width f (open_formulas ss fs)

pub open_counted : (ss : List Spot) (fs : List Formula) → length ss ≡ length fs → length (open_formulas ss fs) ≡ open_spots ss
open_counted [] fs e = refl
open_counted (s ∷ ss) [] e = absurd (omega (arith, e))
open_counted (s ∷ ss) (f ∷ fs) e = by s.width (open_counted ss fs (omega (arith, e))) where
  by : (o : Option ℕ) → length (open_formulas ss fs) ≡ open_spots ss → length (opened o f (open_formulas ss fs)) ≡ is_open o + open_spots ss
  by None h = omega (arith, h)
  by (Some w) h = omega (arith, h)

-- the variables from n on take these formulas
abbrev Takes : Marks → ℕ → List Formula → Type 0
Takes ms n fs = (k : ℕ) (f : Formula) → slice_get fs k ≡ Some f → slice_get ms (n + k) ≡ Some (Some f)

takes_first : (ms : Marks) (n : ℕ) (f : Formula) (fs : List Formula) → Takes ms n (f ∷ fs) → slice_get ms n ≡ Some (Some f)
takes_first ms n f fs h = ap (slice_get ms) (let e : n ≡ n + 0 = omega arith in e) ∙ h 0 f refl

takes_later : (ms : Marks) (n : ℕ) (f : Formula) (fs : List Formula) → Takes ms n (f ∷ fs) → Takes ms (n + 1) fs
takes_later ms n f fs h k g e = ap (slice_get ms) (let m : (n + 1) + k ≡ n + suc k = omega arith in m) ∙ h (suc k) g e

takes_same : (ms : Marks) (n : ℕ) (fs : List Formula) → Takes ms n fs → Takes ms (n + 0) fs
takes_same ms n fs h k g e = ap (slice_get ms) (let m : (n + 0) + k ≡ n + k = omega arith in m) ∙ h k g e

pub node_marked : (ms : Marks) (n : ℕ) (ss : List Spot) (fs : List Formula) → ((k : ℕ) (f : Formula) → slice_get (open_formulas ss fs) k ≡ Some f → slice_get ms (n + k) ≡ Some (Some f))
    → Each (RuleMarked ms) (node_rules (slots_from n ss) fs)
node_marked ms n [] fs h = tt
node_marked ms n (s ∷ ss) [] h = tt
node_marked ms n (s ∷ ss) (f ∷ fs) h = by s.width h (λ m. node_marked ms m ss fs) where
  by : (o : Option ℕ) → Takes ms n (opened o f (open_formulas ss fs)) → ((m : ℕ) → Takes ms m (open_formulas ss fs) → Each (RuleMarked ms) (node_rules (slots_from m ss) fs))
      → Each (RuleMarked ms) (node_rules (slot_of n o ∷ slots_from (n + is_open o) ss) (f ∷ fs))
  by None h rest = (inr (takes_first ms n f (open_formulas ss fs) h), rest (n + 1) (takes_later ms n f (open_formulas ss fs) h))
  by (Some w) h rest = rest (n + 0) (takes_same ms n (open_formulas ss fs) h)

pub node_ruled : (n : ℕ) (ss : List Spot) (fs : List Formula) (k : ℕ) (f : Formula) → slice_get (open_formulas ss fs) k ≡ Some f → Contains (node_rules (slots_from n ss) fs) (rule_of (n + k) f)
node_ruled n [] fs k f g = cc
node_ruled n (s ∷ ss) [] k f g = cc
node_ruled n (s ∷ ss) (x ∷ fs) k f g = by s.width k g (λ m j. node_ruled m ss fs j f) where
  by : (o : Option ℕ) (k : ℕ) → slice_get (opened o x (open_formulas ss fs)) k ≡ Some f
      → ((m j : ℕ) → slice_get (open_formulas ss fs) j ≡ Some f → Contains (node_rules (slots_from m ss) fs) (rule_of (m + j) f))
      → Contains (node_rules (slot_of n o ∷ slots_from (n + is_open o) ss) (x ∷ fs)) (rule_of (n + k) f)
  by None zero g rest =
      subst (λ r. Contains (rule_of n x ∷ node_rules (slots_from (n + 1) ss) fs) r) (ap₂ rule_of (let m : n ≡ n + 0 = omega arith in m) (some_same g)) (Contains-first (node_rules (slots_from (n + 1) ss) fs))
  by None (suc k) g rest =
      Contains-later (rule_of n x) (node_rules (slots_from (n + 1) ss) fs)
      (subst (λ m. Contains (node_rules (slots_from (n + 1) ss) fs) (rule_of m f)) (let m : (n + 1) + k ≡ n + suc k = omega arith in m) (rest (n + 1) k g))
  by (Some w) k g rest = subst (λ m. Contains (node_rules (slots_from (n + 0) ss) fs) (rule_of m f)) (let m : (n + 0) + k ≡ n + k = omega arith in m) (rest (n + 0) k g)

pub node_widths : (ws : List Width) (ms : Marks) → Solves ws ms → (n : ℕ) (ss : List Spot) (fs : List Formula) → length ss ≡ length fs
    → OneSlots ss (slots_from n ss) → OneWidths ss (map (λ f. width_under f ws) fs)
    → ((k : ℕ) (f : Formula) → slice_get (open_formulas ss fs) k ≡ Some f → slice_get ms (n + k) ≡ Some (Some f)) → map (slot_width ws) (slots_from n ss) ≡ map (λ f. width_under f ws) fs
node_widths ws ms s n [] [] e o v h = refl
node_widths ws ms s n [] (f ∷ fs) e o v h = absurd (omega (arith, e))
node_widths ws ms s n (x ∷ ss) [] e o v h = absurd (omega (arith, e))
node_widths ws ms s n (x ∷ ss) (f ∷ fs) e o v h = by x.width o.0 v.0 o.1 h (λ m a b. node_widths ws ms s m ss fs (omega (arith, e)) a v.1 b) where
  by : (w : Option ℕ) → OneSlot w (slot_of n w) → OneWidth w (width_under f ws) → OneSlots ss (slots_from (n + is_open w) ss) → Takes ms n (opened w f (open_formulas ss fs))
      → ((m : ℕ) → OneSlots ss (slots_from m ss) → Takes ms m (open_formulas ss fs) → map (slot_width ws) (slots_from m ss) ≡ map (λ f. width_under f ws) fs)
      → slot_width ws (slot_of n w) ∷ map (slot_width ws) (slots_from (n + is_open w) ss) ≡ width_under f ws ∷ map (λ f. width_under f ws) fs
  by None a b o h rest = ap₂ (λ a b. a ∷ b) (s n f (takes_first ms n f (open_formulas ss fs) h)) (rest (n + 1) o (takes_later ms n f (open_formulas ss fs) h))
  by (Some w) a b o h rest = ap₂ (λ a b. a ∷ b) (ap (slot_width ws) a ∙ width-Fixed 1 ws ∙ sym b) (rest (n + 0) o (takes_same ms n (open_formulas ss fs) h))

-- Connects

abbrev pub NoFlip : Spot → Type 0
NoFlip s = s.flip ≡ false

-- what is driven at each place is free
abbrev pub Drivable : Marks → List Spot → List Formula → List Formula → Type 0
Drivable ms (s ∷ ss) (l ∷ ls) (r ∷ rs) = (s.flip ≡ false → IsFree ms l) × (s.flip ≡ true → IsFree ms r) × Drivable ms ss ls rs
Drivable ms [] ls rs = ⊤
Drivable ms (s ∷ ss) [] rs = ⊤
Drivable ms (s ∷ ss) (l ∷ ls) [] = ⊤

at_least_marked : (ms : Marks) (f g : Formula) → IsFree ms f → Each (RuleMarked ms) (at_least f g)
at_least_marked ms (formula.Var x) g h = (inl (h x refl), tt)
at_least_marked ms f g h = tt

driven_marked : (ms : Marks) (b : Bool) (l r : Formula) → (b ≡ false → IsFree ms l) → (b ≡ true → IsFree ms r) → Each (RuleMarked ms) (driven b l r)
driven_marked ms false l r h k = at_least_marked ms l r (h refl)
driven_marked ms true l r h k = at_least_marked ms r l (k refl)

pub connected_marked : (ms : Marks) (ss : List Spot) (ls rs : List Formula) → Drivable ms ss ls rs → Each (RuleMarked ms) (connected ss ls rs)
connected_marked ms [] ls rs h = tt
connected_marked ms (s ∷ ss) [] rs h = tt
connected_marked ms (s ∷ ss) (l ∷ ls) [] h = tt
connected_marked ms (s ∷ ss) (l ∷ ls) (r ∷ rs) h = each_append (RuleMarked ms) (driven s.flip l r) (connected ss ls rs) (driven_marked ms s.flip l r h.0 h.1) (connected_marked ms ss ls rs h.2)

pub not_source : (ms : Marks) (flow : Flow) (f : Formula) → Marked ms flow f → flow ≢ Source → IsFree ms f
not_source ms flow f h n x e = ⊎_elim (λ l. l) (λ r. absurd (n r)) (h x e)

zeroed_marked : (ms : Marks) (flow : Flow) (f : Formula) → Marked ms flow f → Each (RuleMarked ms) (zeroed flow f)
zeroed_marked ms Source f h = tt
zeroed_marked ms Sink f h = at_least_marked ms f (formula.Fixed 0) (not_source ms Sink f h (λ e. cc))
zeroed_marked ms Duplex f h = at_least_marked ms f (formula.Fixed 0) (not_source ms Duplex f h (λ e. cc))

pub invalidated_marked : (ms : Marks) (flow : Flow) (ss : List Spot) (fs : List Formula) → Placed (Marked ms) flow ss fs → Each (RuleMarked ms) (invalidated flow ss fs)
invalidated_marked ms flow [] fs h = tt
invalidated_marked ms flow (s ∷ ss) [] h = tt
invalidated_marked ms flow (s ∷ ss) (f ∷ fs) h =
    each_append (RuleMarked ms) (zeroed (flow_through s.flip flow) f) (invalidated flow ss fs) (zeroed_marked ms (flow_through s.flip flow) f h.0) (invalidated_marked ms flow ss fs h.1)

turned_source : (flow : Flow) → flow ≢ Sink → flow_through true flow ≢ Source
turned_source Source n e = cc
turned_source Sink n e = n refl
turned_source Duplex n e = cc

-- the left side of a connect is no source; the right side is no sink, or has no flip
pub drivable : (ms : Marks) (lf rf : Flow) (ss ts : List Spot) (ls rs : List Formula) → map (λ (s : Spot). s.flip) ss ≡ map (λ (s : Spot). s.flip) ts
    → Placed (Marked ms) lf ss ls → Placed (Marked ms) rf ts rs → lf ≢ Source → Each NoFlip ts ⊎ (rf ≢ Sink) → Drivable ms ss ls rs
drivable ms lf rf [] ts ls rs e h k n o = tt
drivable ms lf rf (s ∷ ss) [] ls rs e h k n o = cc
drivable ms lf rf (s ∷ ss) (t ∷ ts) [] rs e h k n o = tt
drivable ms lf rf (s ∷ ss) (t ∷ ts) (l ∷ ls) [] e h k n o = tt
drivable ms lf rf (s ∷ ss) (t ∷ ts) (l ∷ ls) (r ∷ rs) e h k n o =
    let same : s.flip ≡ t.flip = cc in
    let rest : map (λ (s : Spot). s.flip) ss ≡ map (λ (s : Spot). s.flip) ts = cc in (
      λ f. not_source ms lf l (subst (λ b. Marked ms (flow_through b lf) l) f h.0) n,
      λ f. ⊎_elim (λ a. absurd (let q : true ≡ false = sym f ∙ same ∙ a.0 in cc)) (λ b. not_source ms (flow_through true rf) r (subst (λ c. Marked ms (flow_through c rf) r) (sym same ∙ f) k.0) (turned_source rf b)) o,
      drivable ms lf rf ss ts ls rs rest h.1 k.1 n (⊎_elim (λ a. inl a.1) (λ b. inr b) o),
    )

-- The least widths

same_level : (v w : Width) → IsWidth v → IsWidth w → level v ≡ level w → v ≡ w
same_level (Bits m) (Bits n) h i e = ap Bits e
same_level (Bits m) Over h i e = absurd (omega (arith, h, e))
same_level Over (Bits n) h i e = absurd (omega (arith, i, e))
same_level Over Over h i e = refl

rule_holds : (P : Rule → Type 0) (rules : List Rule) (r : Rule) → Each P rules → Contains rules r → P r
rule_holds P [] r h i = absurd (Contains-none i)
rule_holds P (q ∷ rules) r h i = ⊎_elim (λ l. subst P (sym (Contains-one l)) h.0) (λ j. rule_holds P rules r h.1 j) (Contains-append_cases (q ∷ []) rules _ i)

all_rule : (P : Rule → Type 0) (rules : List Rule) (r : Rule) → ((k : ℕ) (d : Rule) → k < length rules → P (get_or rules k d)) → Contains rules r → P r
all_rule P [] r h i = absurd (Contains-none i)
all_rule P (q ∷ rules) r h i = ⊎_elim (λ l. subst P (sym (Contains-one l)) (h 0 q (omega arith))) (λ j. all_rule P rules r (λ k d b. h (suc k) d (omega (arith, b))) j) (Contains-append_cases (q ∷ []) rules _ i)

-- a node's variable has the width of its formula
pub least_solves : (rules : List Rule) (count : ℕ) (ws : List Width) (ms : Marks) → IsLeast rules count ws → length ms ≡ count → Each (RuleMarked ms) rules
    → ((x : ℕ) (f : Formula) → slice_get ms x ≡ Some (Some f) → Contains rules (rule_of x f)) → Solves ws ms
least_solves rules count ws ms least counted marked ruled x f e =
    let w : Width = width_under f ws in
    let below : x < length ws = omega (arith, slice_get_within ms x (Some f) e, counted, least.assignment.counted) in
    let isw : IsWidth w = width_is_width ws least.assignment.bounded f in
    let met : level w ≤ level_at ws x = all_rule (λ rule. MeetsOne rule ws) rules (rule_of x f) least.meets (ruled x f e) in
    let other : List Width = set ws x w in
    let same : get_or other x (Bits 0) ≡ w = get_or-set_same ws x w (Bits 0) below in
    let lower : AtOrBelow other ws = λ k. ⊎_elim (λ q. rw q (omega (arith, met, ap level same))) (λ q. omega (arith, ap level (get_or-set_other ws x k w (Bits 0) q))) (cases_eq k x) in
    let assigned : IsAssignment count other = record {
      counted = length-set ws x w ∙ least.assignment.counted;
      bounded = λ k. ⊎_elim (λ q. subst (λ j. IsWidth (get_or other j (Bits 0))) (sym q) (subst IsWidth (sym same) isw))
          (λ q. subst IsWidth (sym (get_or-set_other ws x k w (Bits 0) q)) (least.assignment.bounded k)) (cases_eq k x);
    } in
    let meets : Meets rules other = λ k d b.
    let r : Rule = get_or rules k d in
    let grows : level (width_under r.formula other) ≤ level (width_under r.formula ws) = width_grows other ws least.assignment.bounded lower r.formula in
    ⊎_elim
    (λ q. rw q (⊎_elim
    (λ l. absurd (let g : Some None ≡ Some (Some f) = sym l ∙ ap (slice_get ms) q ∙ e in cc))
    (λ m. let g : r.formula ≡ f = some_same (some_same (sym m ∙ ap (slice_get ms) q ∙ e)) in omega (arith, grows, ap (λ h. level (width_under h ws)) g, ap level same))
    (rule_holds (RuleMarked ms) rules r marked (Contains-get_or rules k d b))))
    (λ q. omega (arith, grows, least.meets k d b, ap level (get_or-set_other ws x r.target w (Bits 0) q)))
    (cases_eq r.target x) in
    let least_is : level_at ws x ≤ level_at other x = least.least other assigned meets x in
    width-Var x ws ∙ same_level (get_or ws x (Bits 0)) w (least.assignment.bounded x) isw (omega (arith, met, least_is, ap level same))
