-- One assignment after the other.
use Rattle.std.proofs.Common.{◌≡◌, ◌≢◌, ◌==◌, ℕ, ◌<◌, true, false, List, [], ◌∷◌, ◌++◌, length, get_or, slice_get, slice_set, Option, Some, None, option_map, option_and_then, refl, sym, subst, ap, ◌∙◌, arith, ⊎_elim, if◌then◌else◌}
use Rattle.std.specs.Prelude.{Contains}
use Rattle.std.proofs.lemmas.Bool.{cases_eq, cases_lt}
use Rattle.std.proofs.lemmas.Grind.{common_steps}
use Rattle.std.proofs.lemmas.List.{get_or-set_same, get_or-set_other, length-set}
use Rattle.std.proofs.lemmas.List.Elements.{Contains-append_left, Contains-append_right}
use Rattle.std.proofs.lemmas.Option.{slice_get-get_or, slice_get_past, get_or_from_slice_get}
use Rattle.ground_net.specs.declared.ground.Ground.{Ground}
use Rattle.ground_net.specs.Shapes.{Shape, Table, shape}
use Rattle.flat_code.specs.declared.instr.Location.{Location}
use Rattle.flat_code.specs.Meaning.{location_shape}
use Rattle.code_draft.specs.declared.draft.Draft.{Draft}
use Rattle.code_draft.proofs.Growing.{grows_then, grows_not}
use Rattle.code_draft.specs.declared.sources.Source.TheVariants as source
use Rattle.code_draft.specs.declared.sources.Sources.{Sources}
use Rattle.code_emit.specs.Emits.{leaf_source, source_shape, sources_table, IsOf, Fits, Emits}
use Rattle.code_emit.proofs.Emitting.{sources_on}
use Rattle.partition_code.specs.Sequences.{driver_in, with_shape, turned_table, InTurn, Turned, Assigns, StandElsewhere}
use Rattle.partition_code.specs.Segmented.{with_frame}

some_same : {A : Type 0} {x y : A} → Some x ≡ Some y → x ≡ y
some_same e = cc

-- an item that is set, and the others
slice_get-set_same : {X : Type 0} (xs : List X) (k : ℕ) (x : X) → k < length xs → slice_get (slice_set xs k x) k ≡ Some x
slice_get-set_same xs k x lt =
    let long = length-set xs k x in
    slice_get-get_or (slice_set xs k x) k x (omega (arith, long, lt)) ∙ ap Some (get_or-set_same xs k x x lt)

slice_get-set_other : {X : Type 0} (xs : List X) (k j : ℕ) (x : X) → j ≢ k → slice_get (slice_set xs k x) j ≡ slice_get xs j
slice_get-set_other xs k j x ne = ⊎_elim
    (λ lt.
    let long = length-set xs k x in
    slice_get-get_or (slice_set xs k x) j x (omega (arith, long, lt)) ∙ (ap Some (get_or-set_other xs k j x x ne) ∙ sym (slice_get-get_or xs j x lt)))
    (λ le. let long = length-set xs k x in slice_get_past (slice_set xs k x) j (omega (arith, long, le)) ∙ sym (slice_get_past xs j le))
    (cases_lt j (length xs))

pub set_source : (S : Sources) (x : ℕ) (s : Location) → x < length S.leaves → leaf_source (with_frame S x s) x ≡ Some (source.Frame s)
set_source S x s lt = ap (option_and_then (λ o. o)) (slice_get-set_same S.leaves x (Some (source.Frame s)) lt)

pub other_source : (S : Sources) (x y : ℕ) (s : Location) → y ≢ x → leaf_source (with_frame S x s) y ≡ leaf_source S y
other_source S x y s ne = ap (option_and_then (λ o. o)) (slice_get-set_other S.leaves x y (Some (source.Frame s)) ne)

test_same : (x y : ℕ) → y ≡ x → (y == x) ≡ true
test_same x y e = grind (arith, common_steps, e)

test_other : (x y : ℕ) → y ≢ x → (y == x) ≡ false
test_other x y ne = grind (arith, common_steps, ne)

-- the kinds and widths with those of the leaf
leaves_same : (a b : ℕ → Option Shape) (e : ℕ → ℕ → Option Shape) → ((y : ℕ) → a y ≡ b y) → Path Table (record { leaf = a; element = e }) (record { leaf = b; element = e })
leaves_same a b e h = λ j. record { leaf = λ y. h y j; element = e }

pub turned : (drivers : List (Option Ground)) (x : ℕ) (S : Sources) (s : Location) (g : Ground) → x < length S.leaves → driver_in drivers x ≡ Some g → shape g (sources_table S) ≡ Some (location_shape s)
    → Turned drivers x S (with_frame S x s)
turned drivers x S s g lt at of_location h t e f =
    let same : h ≡ g = some_same (sym e ∙ at) in
    let shapes : t ≡ location_shape s = some_same (sym f ∙ (ap (λ k. shape k (sources_table S)) same ∙ of_location)) in
    leaves_same (λ y. option_map source_shape (leaf_source (with_frame S x s) y)) (λ y. if y == x then Some t else option_map source_shape (leaf_source S y)) (sources_table S).element
    (λ y. ⊎_elim
    (λ q. subst (λ z. option_map source_shape (leaf_source (with_frame S x s) z) ≡ Some (location_shape s)) (sym q) (ap (option_map source_shape) (set_source S x s lt))
    ∙ (ap Some (sym shapes) ∙ sym (ap (λ b. if b then Some t else option_map source_shape (leaf_source S y)) (test_same x y q))))
    (λ ne. ap (option_map source_shape) (other_source S x y s ne) ∙ sym (ap (λ b. if b then Some t else option_map source_shape (leaf_source S y)) (test_other x y ne)))
    (cases_eq y x))

pub contains_one : (x : ℕ) → Contains (x ∷ []) x
contains_one x = (0, omega arith, refl)

-- one assignment
pub assigned : (drivers : List (Option Ground)) (x : ℕ) (S : Sources) (old new : Draft) (s : Location) (g : Ground) → x < length S.leaves → driver_in drivers x ≡ Some g → Emits S g old new s
    → Assigns drivers (x ∷ []) S old (with_frame S x s) new
assigned drivers x S old new s g lt at emits is srcs =
    let m = emits is srcs in
    let on = sources_on S old new m.grows srcs in
    record {
      grows = m.grows;
      are = record {
        leaves = λ y src e. ⊎_elim
            (λ q. subst (Fits new) (some_same (sym (set_source S x s lt) ∙ (ap (leaf_source (with_frame S x s)) (sym q) ∙ e))) m.stands)
            (λ ne. on.leaves y src (sym (other_source S x y s ne) ∙ e))
            (cases_eq y x);
        regions = on.regions;
      };
      sees = λ words inputs F instant sol sees all. record {
        leaf = λ y src e. ⊎_elim
            (λ q. subst (λ r. IsOf r words inputs F (instant.leaf y)) (some_same (sym (set_source S x s lt) ∙ (ap (leaf_source (with_frame S x s)) (sym q) ∙ e)))
            (m.holds words inputs F (instant.leaf y) sol (instant, sees, ap instant.leaf q ∙ all x g (contains_one x) at)))
            (λ ne. sees.leaf y src (sym (other_source S x y s ne) ∙ e))
            (cases_eq y x);
        load = sees.load;
        shapes = sees.shapes;
      };
    }

pub none_assigned : (drivers : List (Option Ground)) (S : Sources) (d : Draft) → Assigns drivers [] S d S d
none_assigned drivers S d is srcs = record { grows = grows_not d is; are = srcs; sees = λ words inputs F instant sol sees all. sees }

-- one assignment more
pub one_more_assigned : (drivers : List (Option Ground)) (xs : List ℕ) (x : ℕ) (S T U : Sources) (a b c : Draft) → Assigns drivers xs S a T b → Assigns drivers (x ∷ []) T b U c → Assigns drivers (xs ++ x ∷ []) S a U c
one_more_assigned drivers xs x S T U a b c first next is srcs =
    let f = first is srcs in
    let n = next f.grows.is f.are in
    record {
      grows = grows_then a b c f.grows n.grows;
      are = n.are;
      sees = λ words inputs F instant sol sees all.
          let mid = f.sees words inputs F instant (n.grows.back words inputs F sol) sees (λ y g there e. all y g (Contains-append_left xs (x ∷ []) y there) e) in
          n.sees words inputs F instant sol mid (λ y g there e. all y g (Contains-append_right xs (x ∷ []) y there) e);
    }

-- what stands in turn stands so behind its first
pub in_turn_next : (S T : Sources) (drivers : List (Option Ground)) (x : ℕ) (xs : List ℕ) → InTurn (sources_table S) drivers (x ∷ xs) → Turned drivers x S T → InTurn (sources_table T) drivers xs
in_turn_next S T drivers x xs h turned = subst (λ t. InTurn t drivers xs) (sym (turned h.0 h.2 h.1 h.3)) h.4

-- and the kinds and widths that are known behind all are the same
pub next_table : (S T : Sources) (drivers : List (Option Ground)) (x : ℕ) (xs : List ℕ) → InTurn (sources_table S) drivers (x ∷ xs) → Turned drivers x S T
    → turned_table (sources_table T) drivers xs ≡ turned_table (sources_table S) drivers (x ∷ xs)
next_table S T drivers x xs h turned =
    let table = sources_table S in
    let known : option_and_then (λ g. shape g table) (driver_in drivers x) ≡ Some h.2 = ap (option_and_then (λ g. shape g table)) h.1 ∙ h.3 in
    ap (λ t. turned_table t drivers xs) (turned h.0 h.2 h.1 h.3 ∙ ap (with_shape table x) (sym known))

-- the driver that was found
pub driver_is : (drivers : List (Option Ground)) (x : ℕ) (o : Option Ground) (g : Ground) (table : Table) → get_or drivers x o ≡ Some g → InTurn table drivers (x ∷ []) → driver_in drivers x ≡ Some g
driver_is drivers x o g table at turn = by_option (slice_get drivers x) refl turn.1
  where
    none_some : {A : Type 0} {z : A} → None ≡ Some z → ⊥
    none_some e = cc

    by_option : (p : Option (Option Ground)) → slice_get drivers x ≡ p → option_and_then (λ d. d) p ≡ Some turn.0 → driver_in drivers x ≡ Some g
    by_option (Some y) e f = ap (option_and_then (λ d. d)) e ∙ (sym (get_or_from_slice_get drivers x y o e) ∙ at)
    by_option None e f = absurd (none_some f)

-- what stands elsewhere stays there
pub elsewhere : (x : ℕ) (S : Sources) (s : Location) → StandElsewhere (x ∷ []) S (with_frame S x s)
elsewhere x S s = record { leaves = λ y out. other_source S x y s (λ e. out (subst (Contains (x ∷ [])) (sym e) (contains_one x))); memories = refl }

pub none_elsewhere : (S : Sources) → StandElsewhere [] S S
none_elsewhere S = record { leaves = λ y out. refl; memories = refl }

pub one_more_elsewhere : (xs : List ℕ) (x : ℕ) (S T U : Sources) → StandElsewhere xs S T → StandElsewhere (x ∷ []) T U → StandElsewhere (xs ++ x ∷ []) S U
one_more_elsewhere xs x S T U first next = record {
  leaves = λ y out. next.leaves y (λ c. out (Contains-append_right xs (x ∷ []) y c)) ∙ first.leaves y (λ c. out (Contains-append_left xs (x ∷ []) y c));
  memories = next.memories ∙ first.memories;
}
