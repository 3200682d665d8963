-- Emitted code has the values of its expressions.
use Rattle.std.proofs.Common.{◌≡◌, ℕ, ◌+◌, ◌*◌, ◌%◌, ◌<◌, true, nat_lt, List, [], ◌∷◌, ◌++◌, map, slice_index, ◌^◌, Option, Some, None, option_map, refl, sym, subst, ap, ap₂, ◌∙◌, arith, All, pos, if◌then◌else◌, ◌&&◌, true≢false}
use Rattle.std.proofs.lemmas.List.{map-append}
use Rattle.std.proofs.lemmas.List.Elements.{All-push, All-append}
use Rattle.bit_words.specs.declared.value.Kind.{Kind}
use Rattle.bit_words.specs.declared.value.Kind.TheVariants.{Unsigned, Signed}
use Rattle.bit_words.specs.declared.value.Value.{Value}
use Rattle.bit_words.specs.Values.{integer_of}
use Rattle.prim_ops.specs.Values.{fitted, lone, is_one}
use Rattle.ground_net.specs.declared.ground.Ground.{Ground}
use Rattle.ground_net.specs.declared.ground.Ground.TheVariants.{Const, Leaf, Op, Mux, Select, Load, Fit}
use Rattle.ground_net.specs.Grounds.{Instant, value, chosen, selected, loaded}
use Rattle.ground_net.proofs.Layers.{value-Const, value-Leaf, value-Op, value-Mux, value-Select, value-Load, value-Fit}
use Rattle.prim_ops.specs.declared.operation.PrimOp.{PrimOp}
use Rattle.ground_net.specs.Shapes.{Shape, shaped, shape_of_value, HasShapes, shape, is_unsigned, shape_of_load}
use Rattle.ground_net.specs.Words.{value_at, high_at}
use Rattle.ground_net.proofs.Shaping.{fitted_shape, shapes_hold, if_some, both_true}
use Rattle.flat_code.specs.declared.instr.Form.{Form}
use Rattle.flat_code.specs.declared.instr.Form.TheVariants as form
use Rattle.flat_code.specs.declared.instr.Location.{Location}
use Rattle.flat_code.specs.Meaning.{location_shape, location_value, location_values, form_value, element_at, picked, input_word, input_high}
use Rattle.flat_code.specs.Fine.{location_shapes, form_shape, InRegion, region_of}
use Rattle.code_draft.specs.declared.draft.Draft.{Draft}
use Rattle.code_draft.specs.Drafts.{IsDraft, Solved, Grows, Stands, Makes, Wanted, Holds, IsConstant, IsForm}
use Rattle.code_draft.proofs.Growing.{grows_then, grows_not, stands_on, all_stand_on}
use Rattle.code_draft.proofs.Held.{held_value}
use Rattle.code_emit.specs.Ways.{Cut, Given, IsMade, row_value, fit_of_one}
use Rattle.code_draft.specs.declared.sources.Source.{Source}
use Rattle.code_draft.specs.declared.sources.Source.TheVariants as source
use Rattle.code_draft.specs.declared.sources.Elements.{Elements}
use Rattle.code_draft.specs.declared.sources.Sources.{Sources}
use Rattle.code_emit.specs.Emits.{leaf_source, element_source, source_shape, elements_shape, sources_table, IsOf, Sees, Fits, AreSources, ValueOf, Emits, EmitsAll}
use Rattle.code_emit.proofs.Shaped.{some_same, none_some}

-- What is seen has its kinds and widths

source_shaped : (src : Source) (words : List ℕ) (inputs : List Value) (F : List ℕ) (v : Value) → IsOf src words inputs F v → shape_of_value v ≡ source_shape src
source_shaped (source.Word k) words inputs F v e = ap shape_of_value e ∙ fitted_shape k.kind k.width (pos (slice_index words k.number + high_at (shaped k.kind k.width) words k.number * 2 ^ 64)) k.narrow
source_shaped (source.Input k) words inputs F v e = ap shape_of_value e ∙ fitted_shape k.kind k.width (pos (input_word inputs k.number + input_high inputs k.number * 2 ^ 64)) k.narrow
source_shaped (source.Frame s) words inputs F v h = h.shape
source_shaped (source.Constant c) words inputs F v e = ap shape_of_value e

mapped : {A B : Type 0} (f : A → B) (o : Option A) (y : B) → option_map f o ≡ Some y → (x : A) × (o ≡ Some x) × (f x ≡ y)
mapped f (Some x) y e = (x, refl, some_same e)
mapped f None y e = absurd (none_some e)

pub seen_shapes : (S : Sources) (words : List ℕ) (inputs : List Value) (F : List ℕ) (instant : Instant) → Sees S words inputs F instant → HasShapes (sources_table S) instant
seen_shapes S words inputs F instant sees = record {
  leaf = λ x s e.
      let src = mapped source_shape (leaf_source S x) s e in
      source_shaped src.0 words inputs F (instant.leaf x) (sees.leaf x src.0 src.1) ∙ src.2;
  load = λ m k s address e.
      let el = mapped elements_shape (element_source S m k) s e in
      sees.shapes m k el.0 address el.1 ∙ el.2;
}

-- Sources stay where they are

fits_on : (a b : Draft) (src : Source) → Grows a b → Fits a src → Fits b src
fits_on a b (source.Word k) g h = let e = g.words in omega (arith, h, e)
fits_on a b (source.Input k) g h = tt
fits_on a b (source.Frame s) g h = stands_on a b s g h
fits_on a b (source.Constant c) g h = tt

pub sources_on : (S : Sources) (a b : Draft) → Grows a b → AreSources S a → AreSources S b
sources_on S a b g h = record {
  leaves = λ x src e. fits_on a b src g (h.leaves x src e);
  regions = λ m k e at. subst (λ n. InRegion n e.width e.region) (sym g.words) (h.regions m k e at);
}

-- One step after another

-- a wanted value that is another wanted value
pub makes_for : (old new : Draft) (s : Location) (V W : Wanted) → Makes old new s V → ((words : List ℕ) (inputs : List Value) (F : List ℕ) (v : Value) → Solved new words inputs F → W words inputs F v → V words inputs F v)
    → Makes old new s W
makes_for old new s V W m f = record { grows = m.grows; stands = m.stands; holds = λ words inputs F v sol w. m.holds words inputs F v sol (f words inputs F v sol w) }

pub makes_there : (d : Draft) (s : Location) → IsDraft d → Stands d s → Makes d d s (λ words inputs F v. Holds F s v)
makes_there d s is there = record { grows = grows_not d is; stands = there; holds = λ words inputs F v sol h. h }

pub none_emitted : (S : Sources) (d : Draft) → EmitsAll S [] d d []
none_emitted S d is srcs = record { grows = grows_not d is; stand = λ k x lt. absurd (omega (arith, lt)); holds = λ words inputs F instant sol sees. refl; cut = λ words inputs F instant sol sees. λ k x lt. absurd (omega (arith, lt)) }

-- the low word of a value that stands there
pub cut_there : (F : List ℕ) (s : Location) (v : Value) → Holds F s v → Cut F s
cut_there F s v h =
    let width : v.width ≡ s.width = ap (λ (t : Shape). t.width) h.shape in
    subst (λ w. slice_index F s.low < 2 ^ w) width (subst (λ n. n < 2 ^ v.width) (sym h.low) (below v.bits (2 ^ v.width) v.within))
  where
    below : (n m : ℕ) → n < m → n % 2 ^ 64 < m
    below n m lt = omega (arith, lt)

pub one_more_emitted : (S : Sources) (gs : List Ground) (g : Ground) (a b c : Draft) (ss : List Location) (s : Location) → EmitsAll S gs a b ss → Emits S g b c s → EmitsAll S (gs ++ g ∷ []) a c (ss ++ s ∷ [])
one_more_emitted S gs g a b c ss s all one is srcs =
    let first = all is srcs in
    let next = one first.grows.is (sources_on S a b first.grows srcs) in
    record {
      grows = grows_then a b c first.grows next.grows;
      stand = All-push (Stands c) ss s (all_stand_on b c ss next.grows first.stand) next.stands;
      holds = λ words inputs F instant sol sees.
          let before = first.holds words inputs F instant (next.grows.back words inputs F sol) sees in
          let here = held_value F s (value g instant) (next.holds words inputs F (value g instant) sol (instant, sees, refl)) in
          map-append (location_value F) ss (s ∷ []) ∙ (ap₂ (λ vs v. vs ++ v ∷ []) before here ∙ sym (map-append (λ h. value h instant) gs (g ∷ [])));
      cut = λ words inputs F instant sol sees.
          All-push (Cut F) ss s (first.cut words inputs F instant (next.grows.back words inputs F sol) sees) (cut_there F s (value g instant) (next.holds words inputs F (value g instant) sol (instant, sees, refl)));
    }

pub both_emitted : (S : Sources) (gs hs : List Ground) (a b c : Draft) (ss ts : List Location) → EmitsAll S gs a b ss → EmitsAll S hs b c ts → EmitsAll S (gs ++ hs) a c (ss ++ ts)
both_emitted S gs hs a b c ss ts front back is srcs =
    let first = front is srcs in
    let next = back first.grows.is (sources_on S a b first.grows srcs) in
    record {
      grows = grows_then a b c first.grows next.grows;
      stand = All-append (Stands c) ss ts (all_stand_on b c ss next.grows first.stand) next.stand;
      holds = λ words inputs F instant sol sees.
          map-append (location_value F) ss ts
          ∙ (ap₂ (λ vs ws. vs ++ ws) (first.holds words inputs F instant (next.grows.back words inputs F sol) sees) (next.holds words inputs F instant sol sees) ∙ sym (map-append (λ h. value h instant) gs hs));
      cut = λ words inputs F instant sol sees.
          All-append (Cut F) ss ts (first.cut words inputs F instant (next.grows.back words inputs F sol) sees) (next.cut words inputs F instant sol sees);
    }

-- A form on what was emitted.
pub formed : (S : Sources) (g : Ground) (gs : List Ground) (a b c : Draft) (ss : List Location) (s : Location) (f : Form) (t : Shape) → EmitsAll S gs a b ss
    → (IsDraft b → All (Stands b) ss → form_shape f s (location_shapes ss) ≡ Some t → InRegion b.words t.width (region_of f) → Makes b c s (IsForm f s ss t))
    → form_shape f s (location_shapes ss) ≡ Some t → (AreSources S a → InRegion a.words t.width (region_of f)) → shape g (sources_table S) ≡ Some t
    → ((words : List ℕ) (inputs : List Value) (F : List ℕ) (instant : Instant) → Sees S words inputs F instant → location_values F ss ≡ map (λ h. value h instant) gs → value g instant ≡ form_value f s words (location_values F ss))
    → Emits S g a c s
formed S g gs a b c ss s f t all last is_shape region at is_value is srcs =
    let first = all is srcs in
    let m = last first.grows.is first.stand is_shape (subst (λ n. InRegion n t.width (region_of f)) (sym first.grows.words) (region srcs)) in
    record {
      grows = grows_then a b c first.grows m.grows;
      stands = m.stands;
      holds = λ words inputs F v sol wanted.
          let instant = wanted.0 in
          let sees = wanted.1 in
          let parts = first.holds words inputs F instant (m.grows.back words inputs F sol) sees in
          m.holds words inputs F v sol (
            wanted.2 ∙ is_value words inputs F instant sees parts,
            ap shape_of_value wanted.2 ∙ shapes_hold (sources_table S) instant (seen_shapes S words inputs F instant sees) g t at,
          );
    }

-- What is made of what was emitted.
pub made : (S : Sources) (g : Ground) (gs : List Ground) (a b c : Draft) (ss : List Location) (s : Location) (R : Given) (t : Shape) → EmitsAll S gs a b ss → (IsDraft b → All (Stands b) ss → Makes b c s (IsMade R ss t))
    → shape g (sources_table S) ≡ Some t → ((instant : Instant) → value g instant ≡ R (map (λ h. value h instant) gs)) → Emits S g a c s
made S g gs a b c ss s R t all last at is_value is srcs =
    let first = all is srcs in
    let m = last first.grows.is first.stand in
    record {
      grows = grows_then a b c first.grows m.grows;
      stands = m.stands;
      holds = λ words inputs F v sol wanted.
          let instant = wanted.0 in
          let sees = wanted.1 in
          let back = m.grows.back words inputs F sol in
          let parts = first.holds words inputs F instant back sees in
          m.holds words inputs F v sol (
            wanted.2 ∙ (is_value instant ∙ ap R (sym parts)),
            ap shape_of_value wanted.2 ∙ shapes_hold (sources_table S) instant (seen_shapes S words inputs F instant sees) g t at,
            first.cut words inputs F instant back sees,
          );
    }

-- a wide value that is what is made of the locations' values
pub wide_makes : (old new : Draft) (s : Location) (ss : List Location) (f : Form) (R : Given) (t : Shape) → ((words : List ℕ) (vs : List Value) → R vs ≡ form_value f s words vs) → Makes old new s (IsForm f s ss t)
    → Makes old new s (IsMade R ss t)
wide_makes old new s ss f R t same m =
    makes_for old new s (IsForm f s ss t) (IsMade R ss t) m (λ words inputs F v sol wanted. (wanted.0 ∙ same words (location_values F ss), wanted.1))

pub no_region : (m width : ℕ) → InRegion m width (record { base = 0; stride = 0; depth = 0 })
no_region m width b lt = absurd (omega (arith, lt))

-- a wide value, where a try before it leaves the code as it is
pub wide_after : (old d new : Draft) (s : Location) (ss : List Location) (f : Form) (R : Given) (t : Shape) → d ≡ old → ((words : List ℕ) (vs : List Value) → R vs ≡ form_value f s words vs)
    → (IsDraft d → All (Stands d) ss → form_shape f s (location_shapes ss) ≡ Some t → InRegion d.words t.width (region_of f) → Makes d new s (IsForm f s ss t)) → form_shape f s (location_shapes ss) ≡ Some t
    → region_of f ≡ record { base = 0; stride = 0; depth = 0 } → IsDraft old → All (Stands old) ss → Makes old new s (IsMade R ss t)
wide_after old d new s ss f R t same is_value last is_shape nowhere =
    subst (λ e. IsDraft e → All (Stands e) ss → Makes e new s (IsMade R ss t)) same (λ is there.
    wide_makes d new s ss f R t is_value (last is there is_shape (subst (InRegion d.words t.width) (sym nowhere) (no_region d.words t.width))))

-- The variants

pub const_emits : (S : Sources) (g : Ground) (v : Value) (a b : Draft) (s : Location) → g ≡ Const v → (IsDraft a → Makes a b s (IsConstant v)) → Emits S g a b s
const_emits S g v a b s e m is srcs = makes_for a b s (IsConstant v) (ValueOf S g) (m is) (λ words inputs F u sol wanted. wanted.2 ∙ (ap (λ h. value h wanted.0) e ∙ value-Const v wanted.0))

pub leaf_emits : (S : Sources) (g : Ground) (x : ℕ) (src : Source) (a b : Draft) (s : Location) → g ≡ Leaf x → leaf_source S x ≡ Some src → (IsDraft a → Fits a src → Makes a b s (IsOf src)) → Emits S g a b s
leaf_emits S g x src a b s e at m is srcs =
    makes_for a b s (IsOf src) (ValueOf S g) (m is (srcs.leaves x src at)) (λ words inputs F u sol wanted.
    subst (IsOf src words inputs F) (sym (wanted.2 ∙ (ap (λ h. value h wanted.0) e ∙ value-Leaf x wanted.0))) (wanted.1.leaf x src at))

pub op_emits : (S : Sources) (g : Ground) (prim : PrimOp) (gs : List Ground) (params : List ℕ) (a b c : Draft) (ss : List Location) (s : Location) (t : Shape) → g ≡ Op prim gs params → EmitsAll S gs a b ss
    → (IsDraft b → All (Stands b) ss → Makes b c s (IsMade (row_value prim params) ss t)) → shape g (sources_table S) ≡ Some t → Emits S g a c s
op_emits S g prim gs params a b c ss s t e all last at = made S g gs a b c ss s (row_value prim params) t all last at (λ instant. ap (λ h. value h instant) e ∙ value-Op prim gs params instant)

pub mux_emits : (S : Sources) (g : Ground) (gs : List Ground) (a b c : Draft) (ss : List Location) (s : Location) (t : Shape) → g ≡ Mux gs → EmitsAll S gs a b ss
    → (IsDraft b → All (Stands b) ss → Makes b c s (IsMade chosen ss t)) → shape g (sources_table S) ≡ Some t → Emits S g a c s
mux_emits S g gs a b c ss s t e all last at = made S g gs a b c ss s chosen t all last at (λ instant. ap (λ h. value h instant) e ∙ value-Mux gs instant)

pub fit_emits : (S : Sources) (g : Ground) (kind : Kind) (width : ℕ) (gs : List Ground) (a b c : Draft) (ss : List Location) (s : Location) (t : Shape) → g ≡ Fit kind width gs → EmitsAll S gs a b ss
    → (IsDraft b → All (Stands b) ss → Makes b c s (IsMade (fit_of_one kind width) ss t)) → shape g (sources_table S) ≡ Some t → Emits S g a c s
fit_emits S g kind width gs a b c ss s t e all last at = made S g gs a b c ss s (fit_of_one kind width) t all last at (λ instant. ap (λ h. value h instant) e ∙ value-Fit kind width gs instant)

pub select_emits : (S : Sources) (g : Ground) (is gs : List Ground) (i : Ground) (a b c : Draft) (ss : List Location) (s : Location) (t : Shape) → g ≡ Select is gs → is ≡ i ∷ [] → EmitsAll S (is ++ gs) a b ss
    → (IsDraft b → All (Stands b) ss → form_shape form.Select s (location_shapes ss) ≡ Some t → InRegion b.words t.width (region_of form.Select) → Makes b c s (IsForm form.Select s ss t))
    → form_shape form.Select s (location_shapes ss) ≡ Some t → shape g (sources_table S) ≡ Some t → Emits S g a c s
select_emits S g is gs i a b c ss s t e one all last is_shape at =
    formed S g (is ++ gs) a b c ss s form.Select t all last is_shape (λ srcs. no_region a.words t.width) at
    (λ words inputs F instant sees parts.
    ap (λ h. value h instant) e ∙ (value-Select is gs instant
    ∙ (ap (λ xs. selected (integer_of (lone (map (λ h. value h instant) xs))) (map (λ h. value h instant) gs)) one ∙ (ap (λ xs. picked (map (λ h. value h instant) (xs ++ gs))) (sym one) ∙ ap picked (sym parts)))))

unsigned_kind : (s : Shape) → is_unsigned s ≡ true → s.kind ≡ Unsigned
unsigned_kind s e = by_kind s.kind e
  where
    by_kind : (k : Kind) → is_unsigned (shaped k 0) ≡ true → k ≡ Unsigned
    by_kind Unsigned e = refl
    by_kind Signed e = absurd (true≢false (sym e))

-- what is loaded at a UInt
loaded_same : (f g : Value → Value) (o : Option Shape) (t : Shape) (F : List ℕ) (ss : List Location) → shape_of_load o (location_shapes ss) ≡ Some t → ((v : Value) → v.kind ≡ Unsigned → f v ≡ g v)
    → loaded f (location_values F ss) ≡ loaded g (location_values F ss)
loaded_same f g o t F [] e h = refl
loaded_same f g o t F (a ∷ []) e h = refl
loaded_same f g o t F (a ∷ c ∷ []) e h =
    let test = if_some (is_unsigned (location_shape a) && is_unsigned (location_shape c)) o t e in
    let kind = unsigned_kind (location_shape a) ((both_true (is_unsigned (location_shape a)) (is_unsigned (location_shape c)) test.0).0) in
    ap (λ x. if is_one (location_value F c) then x else fitted x.kind x.width (pos 0)) (h (location_value F a) kind)
loaded_same f g o t F (a ∷ c ∷ d ∷ ss) e h = absurd (none_some e)

pub load_emits : (S : Sources) (g : Ground) (m k : ℕ) (gs : List Ground) (el : Elements) (a b c : Draft) (ss : List Location) (s : Location) (t : Shape) → g ≡ Load m k gs → element_source S m k ≡ Some el
    → t ≡ elements_shape el → location_shape s ≡ t → EmitsAll S gs a b ss
    → (IsDraft b → All (Stands b) ss → form_shape (form.Load el.region) s (location_shapes ss) ≡ Some t → InRegion b.words t.width (region_of (form.Load el.region)) → Makes b c s (IsForm (form.Load el.region) s ss t))
    → form_shape (form.Load el.region) s (location_shapes ss) ≡ Some t → shape g (sources_table S) ≡ Some t → Emits S g a c s
load_emits S g m k gs el a b c ss s t e found of_element same all last is_shape at =
    formed S g gs a b c ss s (form.Load el.region) t all last is_shape
    (λ srcs. subst (λ (u : Shape). InRegion a.words u.width el.region) (sym of_element) (srcs.regions m k el found)) at
    (λ words inputs F instant sees parts.
    ap (λ h. value h instant) e ∙ (value-Load m k gs instant
    ∙ (ap (loaded (instant.load m k)) (sym parts)
    ∙ loaded_same (instant.load m k) (element_at el.region s words) (Some (location_shape s)) t F ss is_shape (λ address kind.
    sees.load m k el address found kind
    ∙ ap (λ (u : Shape). if nat_lt address.bits el.region.depth then value_at u words (el.region.base + address.bits * el.region.stride) else fitted u.kind u.width (pos 0)) (sym (same ∙ of_element))))))
