-- Small rules ask the same.
use Rattle.std.proofs.Common.{◌≡◌, ℕ, zero, suc, ◌+◌, ◌<◌, ◌≤◌, Bool, true, false, List, [], ◌∷◌, ◌++◌, map, length, take, get_or, refl, sym, ap, ap₂, ◌∙◌, subst, arith, append_assoc, append-nil, length-append, IsSome}
use Rattle.std.specs.Prelude.{nat_lt}
use Rattle.std.specs.List.{All, AllByRecursion}
use Rattle.std.proofs.Math.ListN.{get_or-append, get_or-eq_default}
use Rattle.std.proofs.Math.Seq.{get_or-append_seam}
use Rattle.std.proofs.lemmas.Bool.{ltb-true, ltb-false}
use Rattle.std.proofs.lemmas.List.{map-append, take_more, get_or-take, length-take-le}
use Rattle.std.proofs.lemmas.List.Elements.{All-nil, All-cons, All-head, All-tail, All-append, All-push, All-weaker, All-contains}
use Rattle.bit_words.specs.declared.value.Kind.{Kind}
use Rattle.prim_ops.specs.declared.operation.PrimOp.{PrimOp}
use Rattle.prim_ops.specs.declared.widths.Width.{Width}
use Rattle.prim_ops.specs.declared.widths.Width.TheVariants.{Bits}
use Rattle.prim_ops.specs.Widths.{row_width}
use Rattle.prim_ops.specs.Operations.{arity_of}
use Rattle.prim_ops.specs.Kinds.{row_kind}
use Rattle.width_rules.specs.declared.rule.Formula.{Formula}
use Rattle.width_rules.specs.declared.rule.Formula.TheOpen.{Formula-F}
use Rattle.width_rules.specs.declared.rule.Formula.TheViews.{roll-Formula}
use Rattle.width_rules.specs.declared.rule.Formula.TheFolds.{map-Formula, every_made-Formula}
use Rattle.width_rules.specs.declared.rule.Formula.TheVariants.{Var, Op, Greatest, rolls-Op, rolls-Greatest}
use Rattle.width_rules.specs.declared.rule.Rule.{Rule}
use Rattle.width_rules.specs.Formulas.{level, greatest, width_under, LayerFits, IsFormula}
use Rattle.width_rules.specs.Solutions.{level_at, IsRule, AreRules, IsWidth, IsAssignment, MeetsOne, Meets, AtOrBelow, IsLeast}
use Rattle.width_rules.proofs.Bounds.{Each, fixed_is, var_is}
use Rattle.width_rules.proofs.FormulaLemmas.{formula_induction, widths_under, width-Var, width-Op, width-Greatest, fits-Var, fits-Op, fits-operands, fits-Greatest}
use Rattle.width_rules.proofs.Monotone.{width_is_width, width_grows, level-wider}
use Rattle.width_solver.specs.Readers.{variables}
use Rattle.width_solver.specs.Small.{Below, GoesOn, AskTheSame, Replaces}
use Rattle.width_solver.proofs.Variables.{variables_within, same_width}
use Rattle.width_solver.proofs.Waking.{all_left, all_right}

-- Assignments that agree on the first variables

abbrev Agree : ℕ → List Width → List Width → Type 0
Agree count v w = (k : ℕ) → k < count → get_or v k (Bits 0) ≡ get_or w k (Bits 0)

same_first : (count : ℕ) (f : Formula) (v w : List Width) → IsFormula count f → Agree count v w → width_under f v ≡ width_under f w
same_first count f v w fits same = same_width v w f (λ x c. same x (All-contains (λ x. x < count) (variables f) x (variables_within count f fits) c))

all_same : (count : ℕ) (fs : List Formula) (v w : List Width) → All (IsFormula count) fs → Agree count v w → widths_under fs v ≡ widths_under fs w
all_same count [] v w fits same = refl
all_same count (f ∷ fs) v w fits same = ap₂ (λ x xs. x ∷ xs)
    (same_first count f v w (All-head (IsFormula count) f fs fits) same) (all_same count fs v w (All-tail (IsFormula count) f fs fits) same)

met_first : (count : ℕ) (rule : Rule) (v w : List Width) → IsRule count rule → Agree count v w → MeetsOne rule w → MeetsOne rule v
met_first count rule v w is same m = rw (same_first count rule.formula v w is.formula same, same rule.target is.target) m

meets_first : (count : ℕ) (rules : List Rule) (v w : List Width) → AreRules count rules → Agree count v w → Meets rules w → Meets rules v
meets_first count [] v w are same m = All-nil (λ rule. MeetsOne rule v)
meets_first count (r ∷ rs) v w are same m = All-cons (λ rule. MeetsOne rule v) r rs
    (met_first count r v w (All-head (IsRule count) r rs are) same (All-head (λ rule. MeetsOne rule w) r rs m))
    (meets_first count rs v w (All-tail (IsRule count) r rs are) same (All-tail (λ rule. MeetsOne rule w) r rs m))

-- Operations and choices of formulas are formulas.

made : (count : ℕ) (y : Formula-F ((x : Formula) × IsFormula count x)) → LayerFits count (map-Formula ((x : Formula) × IsFormula count x) Formula (λ e. e.0) y)
    → IsFormula count (roll-Formula (map-Formula ((x : Formula) × IsFormula count x) Formula (λ e. e.0) y))
made count y h = every_made-Formula (LayerFits count) (map-Formula ((x : Formula) × IsFormula count x) Formula (λ e. e.0) y) y refl h

paired : (count : ℕ) (fs : List Formula) → Each (IsFormula count) fs → List ((x : Formula) × IsFormula count x)
paired count [] h = []
paired count (f ∷ fs) h = (f, h.0) ∷ paired count fs h.1

unpaired : (count : ℕ) (fs : List Formula) (h : Each (IsFormula count) fs) → map (λ (e : (x : Formula) × IsFormula count x). e.0) (paired count fs h) ≡ fs
unfolding paired
unpaired count [] h = refl
unpaired count (f ∷ fs) h = ap (λ l. f ∷ l) (unpaired count fs h.1)

greatest_is : (count : ℕ) (fs : List Formula) → Each (IsFormula count) fs → IsFormula count (Greatest fs)
greatest_is count fs h = subst (λ l. IsFormula count (Greatest l)) (unpaired count fs h)
    (subst (IsFormula count) (rolls-Greatest (map (λ (e : (x : Formula) × IsFormula count x). e.0) (paired count fs h))) (made count (Formula-F.Greatest (paired count fs h)) tt))

op_is : (count : ℕ) (prim : PrimOp) (kinds : List Kind) (fs : List Formula) (params : List ℕ) → Each (IsFormula count) fs → length kinds ≡ (arity_of prim).0 → length fs ≡ (arity_of prim).0
    → length params ≡ (arity_of prim).1 → IsSome (row_kind prim kinds) → IsFormula count (Op prim kinds fs params)
op_is count prim kinds fs params h k f p row =
    let parts = map (λ (e : (x : Formula) × IsFormula count x). e.0) (paired count fs h) in
    subst (λ l. IsFormula count (Op prim kinds l params)) (unpaired count fs h)
    (subst (IsFormula count) (rolls-Op prim kinds parts params) (made count (Formula-F.Op prim kinds (paired count fs h) params) (k, ap length (unpaired count fs h) ∙ f, p, row)))

-- Formulas and rules over more variables

each_more : (m n : ℕ) (parts : List Formula) → AllByRecursion (λ f. IsFormula m f → IsFormula n f) parts → AllByRecursion (IsFormula m) parts → Each (IsFormula n) parts
each_more m n [] all fits = tt
each_more m n (f ∷ fs) all fits = (all.0 fits.0, each_more m n fs all.1 fits.1)

pub fits_more : (m n : ℕ) → m ≤ n → (f : Formula) → IsFormula m f → IsFormula n f
fits_more m n le = formula_induction (λ f. IsFormula m f → IsFormula n f)
    (λ k h. fixed_is n k)
    (λ x h. var_is n x (omega (arith, le, fits-Var m x h)))
    (λ prim kinds parts params all h. let op = fits-Op m prim kinds parts params h in
    op_is n prim kinds parts params (each_more m n parts all (fits-operands m prim kinds parts params h)) op.0 op.1 op.2 op.3)
    (λ parts all h. greatest_is n parts (each_more m n parts all (fits-Greatest m parts h)))

all_more : (m n : ℕ) (fs : List Formula) → m ≤ n → All (IsFormula m) fs → All (IsFormula n) fs
all_more m n fs le = All-weaker (IsFormula m) (IsFormula n) (fits_more m n le) fs

rules_more : (m n : ℕ) (rules : List Rule) → m ≤ n → AreRules m rules → AreRules n rules
rules_more m n rules le = All-weaker (IsRule m) (IsRule n) (λ rule h. record { target = omega (arith, le, h.target); formula = fits_more m n le rule.formula h.formula }) rules

all_each : (n : ℕ) (fs : List Formula) → All (IsFormula n) fs → Each (IsFormula n) fs
all_each n [] h = tt
all_each n (f ∷ fs) h = (All-head (IsFormula n) f fs h, all_each n fs (All-tail (IsFormula n) f fs h))

-- Widths below others

below_append : (us vs ws xs : List Width) → Below us vs → Below ws xs → Below (us ++ ws) (vs ++ xs)
below_append [] vs ws xs h k = rw h k
below_append (u ∷ us) [] ws xs h k = absurd h
below_append (u ∷ us) (v ∷ vs) ws xs h k = (h.0, h.1, below_append us vs ws xs h.2 k)

below_through : (us vs ws : List Width) → Below us vs → Below vs ws → Below us ws
below_through [] vs ws h k = rw h at k
below_through (u ∷ us) [] ws h k = absurd h
below_through (u ∷ us) (v ∷ vs) [] h k = absurd k
below_through (u ∷ us) (v ∷ vs) (w ∷ ws) h k = (k.0, omega (arith, h.1, k.1), below_through us vs ws h.2 k.2)

below_one : (v w : Width) → IsWidth w → level v ≤ level w → Below (v ∷ []) (w ∷ [])
below_one v w is le = (is, le, refl)

greatest_below : (vs ws : List Width) → Below vs ws → level (greatest vs) ≤ level (greatest ws)
greatest_below [] ws h = omega arith
greatest_below (v ∷ vs) [] h = absurd h
greatest_below (v ∷ vs) (w ∷ ws) h = omega (arith, h.1, greatest_below vs ws h.2, level-wider v (greatest vs), level-wider w (greatest ws))

below_levels : (vs ws : List Width) → Below vs ws → AtOrBelow vs ws
below_levels [] ws h k = rw h (omega arith)
below_levels (v ∷ vs) [] h k = absurd h
below_levels (v ∷ vs) (w ∷ ws) h zero = h.1
below_levels (v ∷ vs) (w ∷ ws) h (suc k) = below_levels vs ws h.2 k

below_widths : (vs ws : List Width) → Below vs ws → (k : ℕ) → IsWidth (get_or ws k (Bits 0))
below_widths [] ws h k = rw h (omega arith)
below_widths (v ∷ vs) [] h k = absurd h
below_widths (v ∷ vs) (w ∷ ws) h zero = h.0
below_widths (v ∷ vs) (w ∷ ws) h (suc k) = below_widths vs ws h.2 k

below_counted : (vs ws : List Width) → Below vs ws → length vs ≡ length ws
below_counted [] ws h = rw h refl
below_counted (v ∷ vs) [] h = absurd h
below_counted (v ∷ vs) (w ∷ ws) h = ap suc (below_counted vs ws h.2)

-- variables in a row
vars : ℕ → ℕ → List Formula
vars n zero = []
vars n (suc k) = Var n ∷ vars (n + 1) k

vars_are : (front ws : List Width) → widths_under (vars (length front) (length ws)) (front ++ ws) ≡ ws
unfolding vars
vars_are front [] = refl
vars_are front (w ∷ ws) = ap₂ (λ x xs. x ∷ xs) (width-Var (length front) (front ++ w ∷ ws) ∙ get_or-append_seam front w ws (Bits 0))
    (rw (length-append front (w ∷ []), append_assoc front (w ∷ []) ws) at (vars_are (front ++ w ∷ []) ws))

row_below : (prim : PrimOp) (kinds : List Kind) (params : List ℕ) (vs ws : List Width) → Below vs ws → level (row_width prim kinds vs params) ≤ level (row_width prim kinds ws params)
row_below prim kinds params vs ws h =
    let all = vars 0 (length ws) in
    let low : widths_under all vs ≡ vs = rw (below_counted vs ws h) at (vars_are [] vs) in
    rw (width-Op prim kinds all params vs, width-Op prim kinds all params ws, low, vars_are [] ws) at
    (width_grows vs ws (below_widths vs ws h) (below_levels vs ws h) (Op prim kinds all params))

-- Formulas that stand for others

abbrev goes_nowhere : (count : ℕ) (w : List Width) → IsAssignment count w → GoesOn count [] w
goes_nowhere count w a = record { longer = w; same = λ k lt. refl; assignment = a; meets = All-nil (λ rule. MeetsOne rule w) }

pub replaces_none : (count : ℕ) (rules : List Rule) → Replaces [] count rules count rules []
replaces_none count rules = record {
  added = [];
  onward = sym (append-nil rules);
  grows = omega arith;
  are = All-nil (IsRule count);
  counted = refl;
  formulas = All-nil (IsFormula count);
  sound = λ w is m. refl;
  complete = λ w a. (goes_nowhere count w a, refl);
}

pub replaces_itself : (f : Formula) (count : ℕ) (rules : List Rule) → IsFormula count f → Replaces (f ∷ []) count rules count rules (f ∷ [])
replaces_itself f count rules fits = record {
  added = [];
  onward = sym (append-nil rules);
  grows = omega arith;
  are = All-nil (IsRule count);
  counted = refl;
  formulas = All-cons (IsFormula count) f [] fits (All-nil (IsFormula count));
  sound = λ w is m. below_one (width_under f w) (width_under f w) (width_is_width w is f) (omega arith);
  complete = λ w a. (goes_nowhere count w a, refl);
}

pub replaces_op : (prim : PrimOp) (kinds : List Kind) (parts leaves : List Formula) (params : List ℕ) (count : ℕ) (rules : List Rule) (count' : ℕ) (rules' : List Rule)
    → IsFormula count (Op prim kinds parts params) → Replaces parts count rules count' rules' leaves
    → Replaces (Op prim kinds parts params ∷ []) count rules count' rules' (Op prim kinds leaves params ∷ [])
replaces_op prim kinds parts leaves params count rules count' rules' fits s = record {
  added = s.added;
  onward = s.onward;
  grows = s.grows;
  are = s.are;
  counted = refl;
  formulas = All-cons (IsFormula count') (Op prim kinds leaves params) []
      (let op = fits-Op count prim kinds parts params fits in
      op_is count' prim kinds leaves params (all_each count' leaves s.formulas) op.0 (s.counted ∙ op.1) op.2 op.3) (All-nil (IsFormula count'));
  sound = λ w is m. below_one (width_under (Op prim kinds parts params) w) (width_under (Op prim kinds leaves params) w) (width_is_width w is (Op prim kinds leaves params))
      (rw (width-Op prim kinds parts params w, width-Op prim kinds leaves params w) (row_below prim kinds params (widths_under parts w) (widths_under leaves w) (s.sound w is m)));
  complete = λ w a. let onward = s.complete w a in
      (onward.0, ap (λ x. x ∷ []) (width-Op prim kinds leaves params onward.0.longer ∙ ap (λ ws. row_width prim kinds ws params) onward.1 ∙ sym (width-Op prim kinds parts params w)));
}

pub replaces_greatest : (parts leaves : List Formula) (count : ℕ) (rules : List Rule) (count' : ℕ) (rules' : List Rule) → Replaces parts count rules count' rules' leaves
    → Replaces (Greatest parts ∷ []) count rules count' rules' (Greatest leaves ∷ [])
replaces_greatest parts leaves count rules count' rules' s = record {
  added = s.added;
  onward = s.onward;
  grows = s.grows;
  are = s.are;
  counted = refl;
  formulas = All-cons (IsFormula count') (Greatest leaves) [] (greatest_is count' leaves (all_each count' leaves s.formulas)) (All-nil (IsFormula count'));
  sound = λ w is m. below_one (width_under (Greatest parts) w) (width_under (Greatest leaves) w) (width_is_width w is (Greatest leaves))
      (rw (width-Greatest parts w, width-Greatest leaves w) (greatest_below (widths_under parts w) (widths_under leaves w) (s.sound w is m)));
  complete = λ w a. let onward = s.complete w a in
      (onward.0, ap (λ x. x ∷ []) (width-Greatest leaves onward.0.longer ∙ ap greatest onward.1 ∙ sym (width-Greatest parts w)));
}

-- formulas behind others
pub replaces_both : (ps qs ls ms : List Formula) (a b c : ℕ) (x y z : List Rule) → All (IsFormula a) qs → Replaces ps a x b y ls → Replaces qs b y c z ms → Replaces (ps ++ qs) a x c z (ls ++ ms)
replaces_both ps qs ls ms a b c x y z fits p q = record {
  added = p.added ++ q.added;
  onward = q.onward ∙ ap (λ l. l ++ q.added) p.onward ∙ append_assoc x p.added q.added;
  grows = omega (arith, p.grows, q.grows);
  are = All-append (IsRule c) p.added q.added (rules_more b c p.added q.grows p.are) q.are;
  counted = length-append ls ms ∙ ap₂ (λ m n. m + n) p.counted q.counted ∙ sym (length-append ps qs);
  formulas = All-append (IsFormula c) ls ms (all_more b c ls q.grows p.formulas) q.formulas;
  sound = λ w is m. rw (map-append (λ f. width_under f w) ps qs, map-append (λ f. width_under f w) ls ms)
      (below_append (widths_under ps w) (widths_under ls w) (widths_under qs w) (widths_under ms w)
      (p.sound w is (all_left (λ rule. MeetsOne rule w) p.added q.added m)) (q.sound w is (all_right (λ rule. MeetsOne rule w) p.added q.added m)));
  complete = λ w h. both w h (p.complete w h);
}
  where
    both : (w : List Width) → IsAssignment a w → (first : GoesOn b p.added w) × (widths_under ls first.longer ≡ widths_under ps w)
        → (on : GoesOn c (p.added ++ q.added) w) × (widths_under (ls ++ ms) on.longer ≡ widths_under (ps ++ qs) w)
    both w h first =
        let second = q.complete first.0.longer first.0.assignment in
        let later : Agree b second.0.longer first.0.longer = λ k lt. second.0.same k (omega (arith, lt, first.0.assignment.counted)) in
        let earlier : Agree a first.0.longer w = λ k lt. first.0.same k (omega (arith, lt, h.counted)) in (
          record {
            longer = second.0.longer;
            same = λ k lt. later k (omega (arith, lt, h.counted, p.grows)) ∙ first.0.same k lt;
            assignment = second.0.assignment;
            meets = All-append (λ rule. MeetsOne rule second.0.longer) p.added q.added
                (meets_first b p.added second.0.longer first.0.longer p.are later first.0.meets) second.0.meets;
          },
          map-append (λ f. width_under f second.0.longer) ls ms
              ∙ ap₂ (λ us vs. us ++ vs) (all_same b ls second.0.longer first.0.longer p.formulas later ∙ first.1) (second.1 ∙ all_same a qs first.0.longer w fits earlier)
              ∙ sym (map-append (λ f. width_under f w) ps qs),
        )

-- formulas that stand for formulas that stand for others
pub replaces_through : (ps ls ms : List Formula) (a b c : ℕ) (x y z : List Rule) → Replaces ps a x b y ls → Replaces ls b y c z ms → Replaces ps a x c z ms
replaces_through ps ls ms a b c x y z p q = record {
  added = p.added ++ q.added;
  onward = q.onward ∙ ap (λ l. l ++ q.added) p.onward ∙ append_assoc x p.added q.added;
  grows = omega (arith, p.grows, q.grows);
  are = All-append (IsRule c) p.added q.added (rules_more b c p.added q.grows p.are) q.are;
  counted = q.counted ∙ p.counted;
  formulas = q.formulas;
  sound = λ w is m. below_through (widths_under ps w) (widths_under ls w) (widths_under ms w)
      (p.sound w is (all_left (λ rule. MeetsOne rule w) p.added q.added m)) (q.sound w is (all_right (λ rule. MeetsOne rule w) p.added q.added m));
  complete = λ w h. through w h (p.complete w h);
}
  where
    through : (w : List Width) → IsAssignment a w → (first : GoesOn b p.added w) × (widths_under ls first.longer ≡ widths_under ps w)
        → (on : GoesOn c (p.added ++ q.added) w) × (widths_under ms on.longer ≡ widths_under ps w)
    through w h first =
        let second = q.complete first.0.longer first.0.assignment in
        let later : Agree b second.0.longer first.0.longer = λ k lt. second.0.same k (omega (arith, lt, first.0.assignment.counted)) in (
          record {
            longer = second.0.longer;
            same = λ k lt. later k (omega (arith, lt, h.counted, p.grows)) ∙ first.0.same k lt;
            assignment = second.0.assignment;
            meets = All-append (λ rule. MeetsOne rule second.0.longer) p.added q.added
                (meets_first b p.added second.0.longer first.0.longer p.are later first.0.meets) second.0.meets;
          },
          second.1 ∙ first.1,
        )

pub leaves_more : (parts leaves : List Formula) (i : ℕ) (part whole leaf : Formula) (a b m c : ℕ) (x y n z : List Rule) → i < length parts → part ≡ get_or parts i part → All (IsFormula a) parts
    → Replaces (take i parts) a x b y leaves → Replaces (part ∷ []) b y m n (whole ∷ []) → Replaces (whole ∷ []) m n c z (leaf ∷ [])
    → Replaces (take (i + 1) parts) a x c z (leaves ++ leaf ∷ [])
leaves_more parts leaves i part whole leaf a b m c x y n z lt is fits p q r =
    rw (take_more parts i part lt, ← is) (replaces_both (take i parts) (part ∷ []) leaves (leaf ∷ []) a b c x y z
    (All-cons (IsFormula a) part [] (rw (← is) at (fits i part lt)) (All-nil (IsFormula a))) p (replaces_through (part ∷ []) (whole ∷ []) (leaf ∷ []) b m c y n z q r))

-- one more width
widths_push : (w : List Width) (v : Width) → ((k : ℕ) → IsWidth (get_or w k (Bits 0))) → IsWidth v → (k : ℕ) → IsWidth (get_or (w ++ v ∷ []) k (Bits 0))
widths_push [] v is h zero = h
widths_push [] v is h (suc k) = omega arith
widths_push (u ∷ w) v is h zero = is zero
widths_push (u ∷ w) v is h (suc k) = widths_push w v (λ k. is (suc k)) h k

-- a variable of its own
pub replaces_fresh : (f : Formula) (count : ℕ) (rules : List Rule) → IsFormula count f
    → Replaces (f ∷ []) count rules (count + 1) (rules ++ record { target = count; formula = f } ∷ []) (Var count ∷ [])
replaces_fresh f count rules fits = record {
  added = rule ∷ [];
  onward = refl;
  grows = omega arith;
  are = All-cons (IsRule (count + 1)) rule [] (record { target = omega arith; formula = fits_more count (count + 1) (omega arith) f fits }) (All-nil (IsRule (count + 1)));
  counted = refl;
  formulas = All-cons (IsFormula (count + 1)) (Var count) [] (var_is (count + 1) count (omega arith)) (All-nil (IsFormula (count + 1)));
  sound = λ w is m. below_one (width_under f w) (width_under (Var count) w) (width_is_width w is (Var count))
      (rw (width-Var count w) (All-head (λ r. MeetsOne r w) rule [] m));
  complete = λ w a. onward w a;
}
  where
    rule : Rule
    rule = record { target = count; formula = f }

    onward : (w : List Width) → IsAssignment count w → (on : GoesOn (count + 1) (rule ∷ []) w) × (width_under (Var count) on.longer ∷ [] ≡ width_under f w ∷ [])
    onward w a =
        let v = width_under f w in
        let longer = w ++ v ∷ [] in
        let agree : Agree count longer w = λ k lt. get_or-append w (v ∷ []) (Bits 0) k (omega (arith, lt, a.counted)) in
        let last : get_or longer count (Bits 0) ≡ v = rw (← a.counted) (get_or-append_seam w v [] (Bits 0)) in
        let same : width_under f longer ≡ v = same_first count f longer w fits agree in (
          record {
            longer = longer;
            same = λ k lt. get_or-append w (v ∷ []) (Bits 0) k lt;
            assignment = record { counted = length-append w (v ∷ []) ∙ ap (λ n. n + 1) a.counted; bounded = widths_push w v a.bounded (width_is_width w a.bounded f) };
            meets = All-cons (λ r. MeetsOne r longer) rule [] (rw (same, last) (omega arith)) (All-nil (λ r. MeetsOne r longer));
          },
          ap (λ x. x ∷ []) (width-Var count longer ∙ last),
        )

-- Rules

pub asks_none : (count : ℕ) → AskTheSame count [] count []
asks_none count = record {
  grows = omega arith;
  are = All-nil (IsRule count);
  sound = λ w is m. All-nil (λ rule. MeetsOne rule w);
  complete = λ w a m. goes_nowhere count w a;
}

asks_rule : (count : ℕ) (front : List Rule) (rule : Rule) (f : Formula) (b c : ℕ) (y z : List Rule) → AskTheSame count front b y → IsRule count rule → Replaces (rule.formula ∷ []) b y c z (f ∷ [])
    → AskTheSame count (front ++ rule ∷ []) c (z ++ record { target = rule.target; formula = f } ∷ [])
asks_rule count front rule f b c y z p is q = record {
  grows = omega (arith, p.grows, q.grows);
  are = All-push (IsRule c) z small (rw q.onward (All-append (IsRule c) y q.added (rules_more b c y q.grows p.are) q.are))
      (record { target = omega (arith, is.target, p.grows, q.grows); formula = All-head (IsFormula c) f [] q.formulas });
  sound = λ w h m.
      let front_met = rw q.onward at (all_left (λ r. MeetsOne r w) z (small ∷ []) m) in
      let last = All-head (λ r. MeetsOne r w) small [] (all_right (λ r. MeetsOne r w) z (small ∷ []) m) in
      let below = q.sound w h (all_right (λ r. MeetsOne r w) y q.added front_met) in
      All-push (λ r. MeetsOne r w) front rule (p.sound w h (all_left (λ r. MeetsOne r w) y q.added front_met)) (omega (arith, last, below.1));
  complete = λ w h m. onward w h m (p.complete w h (all_left (λ r. MeetsOne r w) front (rule ∷ []) m));
}
  where
    small : Rule
    small = record { target = rule.target; formula = f }

    onward : (w : List Width) → IsAssignment count w → Meets (front ++ rule ∷ []) w → GoesOn b y w → GoesOn c (z ++ small ∷ []) w
    onward w h m first =
        let second = q.complete first.longer first.assignment in
        let longer = second.0.longer in
        let later : Agree b longer first.longer = λ k lt. second.0.same k (omega (arith, lt, first.assignment.counted)) in
        let earlier : Agree count first.longer w = λ k lt. first.same k (omega (arith, lt, h.counted)) in
        let agree : Agree count longer w = λ k lt. later k (omega (arith, lt, p.grows)) ∙ earlier k lt in
        let last : MeetsOne rule w = All-head (λ r. MeetsOne r w) rule [] (all_right (λ r. MeetsOne r w) front (rule ∷ []) m) in
        let value : width_under f longer ≡ width_under rule.formula w
        = ap (λ l. get_or l 0 (Bits 0)) second.1 ∙ same_first count rule.formula first.longer w is.formula earlier in
        record {
          longer = longer;
          same = λ k lt. agree k (omega (arith, lt, h.counted));
          assignment = second.0.assignment;
          meets = All-push (λ r. MeetsOne r longer) z small
              (rw q.onward (All-append (λ r. MeetsOne r longer) y q.added (meets_first b y longer first.longer p.are later first.meets) second.0.meets))
              (rw (value, agree rule.target is.target) last);
        }

pub asks_more : (count : ℕ) (rules : List Rule) (i : ℕ) (rule : Rule) (f : Formula) (b c : ℕ) (y z : List Rule) → i < length rules → rule ≡ get_or rules i rule → AreRules count rules
    → AskTheSame count (take i rules) b y → Replaces (rule.formula ∷ []) b y c z (f ∷ [])
    → AskTheSame count (take (i + 1) rules) c (z ++ record { target = rule.target; formula = f } ∷ [])
asks_more count rules i rule f b c y z lt is are p q =
    rw (take_more rules i rule lt, ← is) (asks_rule count (take i rules) rule f b c y z p (rw (← is) at (are i rule lt)) q)

-- The least widths of the small rules are those of the rules.

agree_take : (n : ℕ) (w : List Width) → Agree n (take n w) w
agree_take n w k lt = get_or-take n w k (Bits 0) lt

pub least_first : (count : ℕ) (rules : List Rule) (more : ℕ) (small : List Rule) (w : List Width) → AreRules count rules → AskTheSame count rules more small → IsLeast small more w
    → IsLeast rules count (take count w)
least_first count rules more small w are asks h = record {
  assignment = record { counted = counted; bounded = bounded };
  meets = meets_first count rules (take count w) w are (agree_take count w) (asks.sound w h.assignment.bounded h.meets);
  least = least;
}
  where
    counted : length (take count w) ≡ count
    counted = length-take-le count w (omega (arith, h.assignment.counted, asks.grows))

    beyond : (k : ℕ) → count ≤ k → get_or (take count w) k (Bits 0) ≡ Bits 0
    beyond k le = get_or-eq_default (take count w) (Bits 0) (omega (arith, counted, le))

    bounded : (k : ℕ) → IsWidth (get_or (take count w) k (Bits 0))
    bounded k = by (nat_lt k count) refl
      where
        by : (b : Bool) → nat_lt k count ≡ b → IsWidth (get_or (take count w) k (Bits 0))
        by true e = rw (agree_take count w k (ltb-true k count e)) (h.assignment.bounded k)
        by false e = rw (beyond k (ltb-false k count e)) (omega arith)

    least : (other : List Width) → IsAssignment count other → Meets rules other → AtOrBelow (take count w) other
    least other a m k = by (nat_lt k count) refl
      where
        on : GoesOn more small other
        on = asks.complete other a m

        by : (b : Bool) → nat_lt k count ≡ b → level_at (take count w) k ≤ level_at other k
        by true e =
            let lt = ltb-true k count e in
            rw (agree_take count w k lt, ← on.same k (omega (arith, lt, a.counted))) (h.least on.longer on.assignment on.meets k)
        by false e = rw (beyond k (ltb-false k count e)) (omega arith)
