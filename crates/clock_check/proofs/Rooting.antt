-- Sets of leaves that lead to main's first Clock input.
use Rattle.std.proofs.Common.{◌≡◌, ◌↔◌, subst, ◌⊎◌, inl, inr, ⊎_elim, ℕ, Bool, true, List, [], ◌∷◌, ◌++◌, length, drop, get_or, Option, Some, None, option_map, slice_get, refl, sym, ap, ap₂, ◌∙◌, arith, append_assoc}
use Rattle.fir_types.specs.declared.leaf.PathStep.{PathStep}
use Rattle.fir_types.specs.declared.leaf.PathStep.TheVariants as step
use Rattle.fir_meaning.specs.Components.{Design, Leaf, FlatLeaf, flat_through, target_of, module_named}
use Rattle.fir_meaning.specs.ClockRoot.{ClockFrom, IsRooted, at_root, onward, clock_root, clock_inputs_of}
use Rattle.fir_meaning.proofs.Tracking.{none_some}
use Rattle.fir_names.proofs.Graphs.{some_same}
use Rattle.clock_check.specs.Gets.{LinkAt}
use Rattle.clock_check.specs.Searched.{Sinks, IsSink, LeadsTo, there, onward as leads_on}
use Rattle.clock_check.specs.Rooted.{HasRoot, IsClosed}
use Rattle.clock_check.proofs.Getting.{link_at}

-- What is closed and has the root has all leaves that lead to it.

pub rooted_in : (design : Design) (set : FlatLeaf → Bool) → HasRoot design set → IsClosed design set → (x : FlatLeaf) → IsRooted design x → set x ≡ true
rooted_in design set root closed x (at_root e) = root x e
rooted_in design set root closed x (onward {y = y} from rest) =
    let l = link_at design x y from in
    ap set l.from ∙ closed l.path l.m l.sink l.source l.reached l.gets (ap set (sym l.to) ∙ rooted_in design set root closed y rest)

-- Where a leaf leads to the root from behind some instances, some leaf just there does.

through_path : (path : List ℕ) (i : ℕ) (target : Option ℕ) (way : List PathStep)
    → ((flat_through path i target way).path ≡ path) ⊎ ((j : ℕ) × ((flat_through path i target way).path ≡ path ++ j ∷ []))
through_path path i None way = inl refl
through_path path i (Some target) [] = inl refl
through_path path i (Some target) (step.Field x ∷ way) = inr (i, refl)
through_path path i (Some target) (step.Element n ∷ way) = inl refl

nothing_before : (q r : List ℕ) → [] ≡ q ++ r → q ≡ []
nothing_before [] r e = refl
nothing_before (a ∷ q) r e = absurd (let n = ap length e in omega (arith, n))

split : (path q r : List ℕ) (i : ℕ) → path ++ i ∷ [] ≡ q ++ r → (path ++ i ∷ [] ≡ q) ⊎ ((s : List ℕ) × (path ≡ q ++ s))
split path [] r i e = inr (path, refl)
split [] (a ∷ q) r i e = inl (ap₂ (λ (x : ℕ) (l : List ℕ). x ∷ l) (ap (λ l. get_or l 0 0) e) (sym (nothing_before q r (ap (drop 1) e))))
split (b ∷ path) (a ∷ q) r i e =
    let head : b ≡ a = ap (λ l. get_or l 0 0) e in
    ⊎_elim
    (λ same. inl (ap₂ (λ (x : ℕ) (l : List ℕ). x ∷ l) head same))
    (λ more. inr (more.0, ap₂ (λ (x : ℕ) (l : List ℕ). x ∷ l) head more.1))
    (split path q r i (ap (drop 1) e))

root_path : (o : Option Leaf) (x : FlatLeaf) → option_map (λ leaf. record { path = []; component = leaf.component; way = leaf.way }) o ≡ Some x → x.path ≡ []
root_path None x e = absurd (none_some e)
root_path (Some leaf) x e = ap (λ (y : FlatLeaf). y.path) (sym (some_same e))

pub entered : (design : Design) (x : FlatLeaf) → IsRooted design x → (q r : List ℕ) → x.path ≡ q ++ r → (w : FlatLeaf) × IsRooted design w × (w.path ≡ q)
entered design x (at_root e) q r p =
    let nowhere : x.path ≡ [] = root_path (slice_get (clock_inputs_of (module_named design design.main)) 0) x e in
    (x, at_root e, nowhere ∙ sym (nothing_before q r (sym nowhere ∙ p)))
entered design x (onward {y = y} from rest) q r p = by (link_at design x y from) (λ r' e. entered design y rest q r' e)
  where
    Entered : Type 0
    Entered = (w : FlatLeaf) × IsRooted design w × (w.path ≡ q)

    inside : (l : LinkAt design x y) → ((r' : List ℕ) → y.path ≡ q ++ r' → Entered) → (s : List ℕ) → l.path ≡ q ++ s → Entered
    inside l next s e = ⊎_elim
        (λ same. next s (ap (λ (z : FlatLeaf). z.path) l.to ∙ same ∙ e))
        (λ below. next (s ++ below.0 ∷ []) (ap (λ (z : FlatLeaf). z.path) l.to ∙ below.1 ∙ ap (λ t. t ++ below.0 ∷ []) e ∙ append_assoc q s (below.0 ∷ [])))
        (through_path l.path l.source.component (target_of l.m l.source.component) l.source.way)

    by : LinkAt design x y → ((r' : List ℕ) → y.path ≡ q ++ r' → Entered) → Entered
    by l next = ⊎_elim
        (λ same. inside l next r (sym same ∙ sym (ap (λ (z : FlatLeaf). z.path) l.from) ∙ p))
        (λ below. ⊎_elim
        (λ here'. (x, onward from rest, ap (λ (z : FlatLeaf). z.path) l.from ∙ below.1 ∙ here'))
        (λ more. inside l next more.0 more.1)
        (split l.path q r below.0 (sym below.1 ∙ sym (ap (λ (z : FlatLeaf). z.path) l.from) ∙ p)))
        (through_path l.path l.sink.component (target_of l.m l.sink.component) l.sink.way)

-- A search along the links of chains of clocks finds what leads to the root.

pub searched_rooted : (design : Design) (sinks : Sinks) (root : FlatLeaf) → clock_root design ≡ Some root → ((x y : FlatLeaf) → IsSink sinks x y ↔ ClockFrom design x y)
    → (x : FlatLeaf) → LeadsTo sinks root x → IsRooted design x
searched_rooted design sinks root e links x there = at_root e
searched_rooted design sinks root e links x (leads_on z y is rest) = onward ((links z y).0 is) (searched_rooted design sinks root e links y rest)

pub rooted_searched : (design : Design) (sinks : Sinks) (root : FlatLeaf) → clock_root design ≡ Some root → ((x y : FlatLeaf) → IsSink sinks x y ↔ ClockFrom design x y)
    → (x : FlatLeaf) → IsRooted design x → LeadsTo sinks root x
rooted_searched design sinks root e links x (at_root f) = subst (LeadsTo sinks root) (some_same (sym e ∙ f)) there
rooted_searched design sinks root e links x (onward {y = y} from rest) = leads_on x y ((links x y).1 from) (rooted_searched design sinks root e links y rest)
