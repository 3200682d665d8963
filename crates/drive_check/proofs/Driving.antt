-- Leaves that are driven, and where faults of them stand.
use Rattle.std.proofs.Common.{◌≡◌, ◌≢◌, ℕ, zero, suc, ◌+◌, ◌<◌, ◌==◌, Bool, true, false, ◌&&◌, ◌||◌, List, [], ◌∷◌, ◌++◌, map, find, filter_map, option_to_list, length, take, get_or, Option, Some, None, cond, refl, sym, ap, ap₂, ◌∙◌, arith, eq-eqb, slice_get}
use Rattle.std.specs.List.{list_any, cons_option}
use Rattle.std.specs.Option.{option_or}
use Rattle.std.proofs.lemmas.Bool.{ne_eqb}
use Rattle.std.proofs.lemmas.List.Folds.{find-append, list_any_more}
use Rattle.place_text.specs.declared.place.Place.{Place}
use Rattle.fir_types.specs.declared.name.Name.{Name}
use Rattle.fir_types.specs.declared.leaf.TypeLeaf.{TypeLeaf}
use Rattle.fir_types.specs.declared.leaf.PathStep.{PathStep}
use Rattle.fir_types.specs.declared.leaf.PathStep.TheVariants as step
use Rattle.fir_types.specs.declared.memory.Memory.{Memory}
use Rattle.fir_types.specs.declared.memory.MemLine.{MemLine}
use Rattle.fir_types.specs.declared.memory.MemLine.TheVariants as line
use Rattle.fir_types.specs.declared.memory.PortMode.{PortMode}
use Rattle.fir_types.proofs.Lines.{lines_more}
use Rattle.fir_names.proofs.Graphs.{some_same}
use Rattle.fir_meaning.proofs.Tracking.{none_some}
use Rattle.fir_meaning.specs.Components.{Leaf}
use Rattle.fir_meaning.specs.Mentions.{leaves_at}
use Rattle.fir_meaning.specs.Drives.{same_leaf, is_turned}
use Rattle.fir_meaning.specs.Certain.{may_be}
use Rattle.drive_check.specs.declared.leaf_set.LeafKey.{LeafKey}
use Rattle.drive_check.specs.declared.spot.Spot.{Spot}
use Rattle.drive_check.specs.Keys.{is_among, leaf_of_key, step_of}
use Rattle.drive_check.specs.Spots.{region_at}
use Rattle.drive_check.specs.Sites.{port_name_in, place_or, place_in_memory}

-- Ports by name

abbrev is_port : ℕ → Name → Bool
is_port port name = name.id == port

abbrev found : ℕ → List MemLine → Option Name
found port lines = find (is_port port) (filter_map port_name_in lines)

pub port_found : (lines : List MemLine) (i : ℕ) (x : MemLine) (name : Name) (port : ℕ) (other : Place) → i < length lines → x ≡ get_or lines i x → found port (take i lines) ≡ None
    → port_name_in x ≡ Some name → name.id ≡ port → name.place ≡ place_or other (found port lines)
port_found [] i x name port other lt is n h e = absurd (omega (arith, lt))
port_found (z ∷ xs) zero x name port other lt is n h e =
    let here : port_name_in z ≡ Some name = ap port_name_in (sym is) ∙ h in
    sym (ap (λ o. place_or other (find (is_port port) (cons_option o (filter_map port_name_in xs)))) here
    ∙ ap (λ b. place_or other (cond b (Some name) (found port xs))) (eq-eqb name.id port e))
port_found (z ∷ xs) (suc i) x name port other lt is n h e = by (port_name_in z) n (λ m. port_found xs i x name port other (omega (arith, lt)) is m h e)
  where
    skip : (y : Name) (b : Bool) → cond b (Some y) (found port (take i xs)) ≡ None → (found port (take i xs) ≡ None → name.place ≡ place_or other (found port xs))
        → name.place ≡ place_or other (cond b (Some y) (found port xs))
    skip y true m rest = absurd (none_some (sym m))
    skip y false m rest = rest m

    by : (o : Option Name) → find (is_port port) (cons_option o (filter_map port_name_in (take i xs))) ≡ None → (found port (take i xs) ≡ None → name.place ≡ place_or other (found port xs))
        → name.place ≡ place_or other (find (is_port port) (cons_option o (filter_map port_name_in xs)))
    by None m rest = rest m
    by (Some y) m rest = skip y (is_port port y) m rest

more : (lines : List MemLine) (i : ℕ) (x : MemLine) (port : ℕ) → i < length lines → x ≡ get_or lines i x → found port (take i lines) ≡ None
    → find (is_port port) (option_to_list (port_name_in x)) ≡ None → found port (take (i + 1) lines) ≡ None
more lines i x port lt is n h =
    ap (find (is_port port)) (lines_more port_name_in lines i x lt is) ∙ find-append (is_port port) (filter_map port_name_in (take i lines)) (option_to_list (port_name_in x))
    ∙ ap₂ option_or n h

pub other_port : (lines : List MemLine) (i : ℕ) (x : MemLine) (name : Name) (port : ℕ) → i < length lines → x ≡ get_or lines i x → found port (take i lines) ≡ None
    → port_name_in x ≡ Some name → name.id ≢ port → found port (take (i + 1) lines) ≡ None
other_port lines i x name port lt is n h e =
    more lines i x port lt is n (ap (λ o. find (is_port port) (option_to_list o)) h ∙ ap (λ b. cond b (Some name) None) (ne_eqb name.id port e))

pub no_port : (lines : List MemLine) (i : ℕ) (x : MemLine) (port : ℕ) → i < length lines → x ≡ get_or lines i x → found port (take i lines) ≡ None
    → ((at : Place) (mode : PortMode) (name : Name) → x ≡ line.MemPort at mode name → ⊥) → found port (take (i + 1) lines) ≡ None
no_port lines i x port lt is n h = more lines i x port lt is n (ap (λ o. find (is_port port) (option_to_list o)) (none x h))
  where
    none : (l : MemLine) → ((at : Place) (mode : PortMode) (name : Name) → l ≡ line.MemPort at mode name → ⊥) → port_name_in l ≡ None
    none (line.MemPort at m name) k = absurd (k at m name refl)
    none (line.Element at t) k = refl
    none (line.Depth at d) k = refl
    none (line.ReadLatency at d) k = refl
    none (line.WriteLatency at d) k = refl
    none (line.ReadUnder at u) k = refl

pub first_step : (other : Place) (memory : Memory) (path : List PathStep) (port : ℕ) → slice_get path 0 ≡ Some (step.Field port)
    → place_or other (found port memory.lines) ≡ place_in_memory other memory path
first_step other memory [] port e = absurd (none_some e)
first_step other memory (s ∷ way) port e = sym (ap (λ x. place_in_memory other memory (x ∷ way)) (some_same e))

-- Leaves of a part

or_false : (b : Bool) → (b || false) ≡ b
or_false true = refl
or_false false = refl

or_comm : (a b : Bool) → (a || b) ≡ (b || a)
or_comm true true = refl
or_comm true false = refl
or_comm false true = refl
or_comm false false = refl

pub named_leaf : (spot : Spot) (flip : Bool) (part : TypeLeaf) (key : LeafKey) (leaf : Leaf) → key.component ≡ spot.component → map step_of key.way.items ≡ map step_of spot.way.items ++ part.path
    → is_turned flip part ≡ true → may_be flip (region_at spot) leaf part ≡ same_leaf (leaf_of_key key) leaf
named_leaf spot flip part key leaf c w t =
    ap (λ b. b && list_any (λ at. same_leaf at leaf) (leaves_at (region_at spot) part.path)) t
    ∙ or_false (same_leaf (record { component = spot.component; way = map step_of spot.way.items ++ part.path }) leaf)
    ∙ ap₂ (λ (a : ℕ) (b : List PathStep). same_leaf (record { component = a; way = b }) leaf) (sym c) (sym w)

pub drives_leaf : (spot : Spot) (flip : Bool) (part : TypeLeaf) (key : LeafKey) (old new : List LeafKey) → key.component ≡ spot.component → map step_of key.way.items ≡ map step_of spot.way.items ++ part.path
    → is_turned flip part ≡ true → ((leaf : Leaf) → is_among new leaf ≡ (is_among old leaf || same_leaf (leaf_of_key key) leaf))
    → (leaf : Leaf) → is_among new leaf ≡ (may_be flip (region_at spot) leaf part || is_among old leaf)
drives_leaf spot flip part key old new c w t h leaf =
    h leaf ∙ or_comm (is_among old leaf) (same_leaf (leaf_of_key key) leaf) ∙ ap (λ b. b || is_among old leaf) (sym (named_leaf spot flip part key leaf c w t))

pub leaves_leaf : (spot : Spot) (flip : Bool) (part : TypeLeaf) (keys : List LeafKey) → is_turned flip part ≡ false → (leaf : Leaf) → is_among keys leaf ≡ (may_be flip (region_at spot) leaf part || is_among keys leaf)
leaves_leaf spot flip part keys t leaf = sym (ap (λ b. (b && list_any (λ at. same_leaf at leaf) (leaves_at (region_at spot) part.path)) || is_among keys leaf) t)

or_turn : (a b c : Bool) → (a || (b || c)) ≡ ((b || a) || c)
or_turn true true c = refl
or_turn true false c = refl
or_turn false true c = refl
or_turn false false c = refl

pub parts_more : (p : Leaf → TypeLeaf → Bool) (parts : List TypeLeaf) (i : ℕ) (x : TypeLeaf) (old now' new : List LeafKey) → i < length parts → x ≡ get_or parts i x
    → ((leaf : Leaf) → is_among now' leaf ≡ (list_any (p leaf) (take i parts) || is_among old leaf)) → ((leaf : Leaf) → is_among new leaf ≡ (p leaf x || is_among now' leaf))
    → (leaf : Leaf) → is_among new leaf ≡ (list_any (p leaf) (take (i + 1) parts) || is_among old leaf)
parts_more p parts i x old now' new lt is h k leaf =
    k leaf ∙ ap (λ b. p leaf x || b) (h leaf) ∙ or_turn (p leaf x) (list_any (p leaf) (take i parts)) (is_among old leaf)
    ∙ ap (λ b. b || is_among old leaf) (ap (λ y. list_any (p leaf) (take i parts) || p leaf y) is ∙ sym (list_any_more (p leaf) parts i x lt))
