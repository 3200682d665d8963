-- What a target gets.
use Rattle.std.proofs.Common.{◌≡◌, ℕ, ◌+◌, ◌<◌, List, [], ◌∷◌, ◌++◌, map, take, get_or, length, Some, All, refl, sym, subst, ap, ap₂, ◌∙◌, arith}
use Rattle.std.specs.Prelude.{Result, Ok, Err, OnOk}
use Rattle.std.proofs.lemmas.List.{map-append, take_more}
use Rattle.bit_words.specs.declared.value.Value.{Value}
use Rattle.ground_net.specs.declared.ground.Ground.TheVariants.{Leaf}
use Rattle.ground_net.specs.declared.net.Net.{Net}
use Rattle.ground_net.specs.Grounds.{Instant, value}
use Rattle.ground_net.proofs.Layers.{value-Leaf}
use Rattle.ground_net.specs.Shapes.{shape}
use Rattle.ground_net.specs.Cycles.{NetState}
use Rattle.ground_net.proofs.Shaping.{shape-Leaf}
use Rattle.flat_code.specs.declared.instr.Location.{Location}
use Rattle.flat_code.specs.declared.instr.Port.{Port}
use Rattle.flat_code.specs.declared.instr.Region.{Region}
use Rattle.flat_code.specs.Meaning.{location_shape, location_value, location_values, stored_where}
use Rattle.flat_code.specs.Fine.{InRegion, location_slots}
use Rattle.flat_code.proofs.Frames.{location_more}
use Rattle.code_draft.specs.declared.draft.Draft.{Draft}
use Rattle.code_draft.specs.Drafts.{Stands, pushed_in}
use Rattle.code_draft.proofs.Growing.{grows_then, stands_on}
use Rattle.code_draft.proofs.Held.{held_value}
use Rattle.code_draft.specs.declared.sources.Source.{Source}
use Rattle.code_draft.specs.declared.sources.Source.TheVariants as source
use Rattle.code_draft.specs.declared.sources.Sources.{Sources}
use Rattle.code_emit.specs.Emits.{sources_table, Sees, Fits, AreSources, Emits, EmitsAll}
use Rattle.code_emit.proofs.Emitting.{sources_on}
use Rattle.code_draft.specs.Writing.{HasPort, TellsBy, PublishesBy}
use Rattle.code_memories.specs.Telling.{Left, ShowsState}
use Rattle.code_memories.proofs.NextWords.{told_then, none_told}
use Rattle.code_memories.specs.declared.places.Target.{Target}
use Rattle.code_memories.specs.Writes.{PublishesLeft, TellsTarget}

pub on_ok_so : {A E : Type 0} (P Q : Type 0) (r : Result A E) → OnOk r P → (P → Q) → OnOk r Q
on_ok_so P Q (Ok x) h f = f h
on_ok_so P Q (Err e) h f = tt

-- one thing after the other
pub left_then : (net : Net) (S : Sources) (V W : Left) (a b c : Draft) → PublishesLeft net S V a b → PublishesLeft net S W b c → PublishesLeft net S (λ st instant. V st instant ++ W st instant) a c
left_then net S V W a b c f g is srcs = let one = f is srcs in told_then net S V W a b c one (g one.is one.are)

pub nothing_left_yet : (net : Net) (S : Sources) (d : Draft) → PublishesLeft net S (λ st instant. []) d d
nothing_left_yet net S d is srcs = none_told net S d is srcs

-- what is left is the same at each instant that the sources show
pub left_as : (net : Net) (S : Sources) (V W : Left) (a b : Draft) → ((words : List ℕ) (inputs : List Value) (F : List ℕ) (instant : Instant) (st : NetState) → Sees S words inputs F instant → ShowsState net st instant → V st instant ≡ W st instant)
    → PublishesLeft net S V a b → PublishesLeft net S W a b
left_as net S V W a b e f is srcs = let t = f is srcs in record {
  is = t.is;
  are = t.are;
  words = t.words;
  slots = t.slots;
  stays = t.stays;
  back = t.back;
  tells = λ words inputs F instant st sol sees shows. t.tells words inputs F instant st sol sees shows ∙ ap (λ ps. pushed_in a F ++ ps) (e words inputs F instant st sees shows);
}

-- the values of leaves, one more
pub leaves_more : (xs : List ℕ) (k : ℕ) (d : ℕ) → k < length xs → map (λ (x : ℕ). Leaf x) (take (k + 1) xs) ≡ map (λ (x : ℕ). Leaf x) (take k xs) ++ Leaf (get_or xs k d) ∷ []
leaves_more xs k d lt = ap (map (λ (x : ℕ). Leaf x)) (take_more xs k d lt) ∙ map-append (λ (x : ℕ). Leaf x) (take k xs) (get_or xs k d ∷ [])

values_of_leaves : (xs : List ℕ) (instant : Instant) → map (λ g. value g instant) (map (λ (x : ℕ). Leaf x) xs) ≡ map (λ x. instant.leaf x) xs
values_of_leaves [] instant = refl
values_of_leaves (x ∷ xs) instant = ap₂ (λ v vs. v ∷ vs) (value-Leaf x instant) (values_of_leaves xs instant)

-- sources stay where they are
fits_by : (a b : Draft) (p : Port) (src : Source) → TellsBy a b p → Fits a src → Fits b src
fits_by a b p (source.Word k) t h = let e = t.words in omega (arith, h, e)
fits_by a b p (source.Input k) t h = tt
fits_by a b p (source.Frame u) t h = record { within = location_more a.slots b.slots u t.slots h.within; written = λ k d lt. t.stays (get_or (location_slots u) k d) (h.written k d lt) }
fits_by a b p (source.Constant c) t h = tt

sources_by : (S : Sources) (a b : Draft) (p : Port) → TellsBy a b p → AreSources S a → AreSources S b
sources_by S a b p t h = record {
  leaves = λ x src e. fits_by a b p src t (h.leaves x src e);
  regions = λ m k e at. subst (λ n. InRegion n e.width e.region) (sym t.words) (h.regions m k e at);
}

-- The address, the data and the conditions, and then the port.
pub target_told : (net : Net) (S : Sources) (target : Target) (conditions : List ℕ) (a b c d e : Draft) (address source : Location) (ss : List Location) (p : Port)
    → Emits S (Leaf target.address) a b address → Emits S (Leaf target.source) b c source → EmitsAll S (map (λ (x : ℕ). Leaf x) conditions) c d ss
    → shape (Leaf target.source) (sources_table S) ≡ Some (location_shape source)
    → p.region ≡ target.region → p.conditions ≡ ss → p.address ≡ address → p.source ≡ source → PublishesBy d e p → TellsTarget net S target conditions a e
target_told net S target conditions a b c d e address source ss p first second third at pr pc pa ps last fits is srcs =
    let one = first is srcs in
    let srcs1 = sources_on S a b one.grows srcs in
    let two = second one.grows.is srcs1 in
    let srcs2 = sources_on S b c two.grows srcs1 in
    let three = third two.grows.is srcs2 in
    let srcs3 = sources_on S c d three.grows srcs2 in
    let all = grows_then a b d one.grows (grows_then b c d two.grows three.grows) in
    let known : (sources_table S).leaf target.source ≡ Some (location_shape source) = sym (shape-Leaf target.source (sources_table S)) ∙ at in
    let room : InRegion d.words source.width target.region = subst (λ n. InRegion n source.width target.region) (sym all.words) (fits (location_shape source) known) in
    let has : HasPort d p = record {
      conditions = subst (All (Stands d)) (sym pc) three.stand;
      address = subst (Stands d) (sym pa) (stands_on b d address (grows_then b c d two.grows three.grows) one.stands);
      source = subst (Stands d) (sym ps) (stands_on c d source three.grows two.stands);
      region = subst (λ (s : Location). InRegion d.words s.width p.region) (sym ps) (subst (InRegion d.words source.width) (sym pr) room);
    } in
    let t = last three.grows.is has in
    let low = all.slots in
    let more = t.slots in
    record {
      is = t.is;
      are = sources_by S d e p t srcs3;
      words = t.words ∙ all.words;
      slots = omega (arith, low, more);
      stays = λ k h. t.stays k (all.stays k h);
      back = λ words inputs F sol. all.back words inputs F (t.back words inputs F sol);
      tells = λ words inputs F instant st sol sees shows.
          let sol3 = t.back words inputs F sol in
          let sol2 = three.grows.back words inputs F sol3 in
          let sol1 = two.grows.back words inputs F sol2 in
          let address_is : location_value F address ≡ instant.leaf target.address
          = held_value F address (value (Leaf target.address) instant) (one.holds words inputs F (value (Leaf target.address) instant) sol1 (instant, sees, refl)) ∙ value-Leaf target.address instant in
          let source_is : location_value F source ≡ instant.leaf target.source
          = held_value F source (value (Leaf target.source) instant) (two.holds words inputs F (value (Leaf target.source) instant) sol2 (instant, sees, refl)) ∙ value-Leaf target.source instant in
          let conditions_are : location_values F ss ≡ map (λ x. instant.leaf x) conditions = three.holds words inputs F instant sol3 sees ∙ values_of_leaves conditions instant in
          t.tells F ∙ ap₂ (λ ps qs. ps ++ qs) (all.quiet F)
          (ap₂ (λ (r : Region) (cs : List Location). stored_where r (location_value F p.address) (location_value F p.source) (location_values F cs)) pr pc
          ∙ (ap₂ (λ (s : Location) (u : Location). stored_where target.region (location_value F s) (location_value F u) (location_values F ss)) pa ps
          ∙ (ap₂ (λ v w. stored_where target.region v w (location_values F ss)) address_is source_is ∙ ap (stored_where target.region (instant.leaf target.address) (instant.leaf target.source)) conditions_are)));
    }
