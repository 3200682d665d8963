-- The words of a register's next integer are published.
use Rattle.std.proofs.Common.{◌≡◌, ℕ, ◌+◌, ◌<◌, Bool, true, false, nat_lt, if◌then◌else◌, List, [], ◌∷◌, ◌++◌, map, take, get_or, length, slice_get, Some, ℤ, refl, sym, subst, ap, ap₂, ◌∙◌, arith}
use Rattle.std.specs.Prelude.{Contains, Result, Ok, Err, OnOk}
use Rattle.std.proofs.lemmas.List.{append_assoc, append-nil, map-append, take_more}
use Rattle.std.proofs.lemmas.Grind.{flat_map-append}
use Rattle.std.proofs.lemmas.List.Elements.{Contains-append_left, Contains-append_right}
use Rattle.bit_words.specs.Values.{integer_of}
use Rattle.prim_ops.specs.Values.{fitted}
use Rattle.prim_ops.proofs.Fittings.{refitted}
use Rattle.ground_net.specs.declared.ground.Ground.{Ground}
use Rattle.ground_net.specs.declared.net.Net.{Net}
use Rattle.ground_net.specs.declared.net.NetRegister.{NetRegister}
use Rattle.ground_net.specs.Grounds.{Instant, value}
use Rattle.ground_net.specs.Cones.{Sink, A_register}
use Rattle.ground_net.specs.Shapes.{Shape, shape, shape_of_value}
use Rattle.ground_net.specs.Cycles.{NetState, next, next_of_register}
use Rattle.ground_net.specs.Words.{register_word, word_count}
use Rattle.flat_code.specs.declared.instr.Location.{Location}
use Rattle.flat_code.specs.Meaning.{stored, location_shape}
use Rattle.flat_code.specs.Fine.{further_words, location_slots, InRegion}
use Rattle.flat_code.proofs.Frames.{location_more}
use Rattle.code_draft.specs.declared.draft.Draft.{Draft}
use Rattle.code_draft.specs.Drafts.{IsDraft, pushed_in}
use Rattle.code_draft.specs.declared.sources.Source.{Source}
use Rattle.code_draft.specs.declared.sources.Source.TheVariants as source
use Rattle.code_draft.specs.declared.sources.Sources.{Sources}
use Rattle.code_emit.specs.Emits.{sources_table, Fits, AreSources, Emits}
use Rattle.code_emit.proofs.Emitting.{sources_on}
use Rattle.code_draft.specs.Publishing.{Tells, Publishes}
use Rattle.partition_code.specs.Effects.{register_shape, register_told, sink_told, sinks_told, of_register}
use Rattle.code_memories.specs.Telling.{Left, TellsLeft, PublishesSinks}

pub some_same : {A : Type 0} {x y : A} → Some x ≡ Some y → x ≡ y
some_same e = cc

pub on_ok_so : {A E : Type 0} (P Q : Type 0) (r : Result A E) → OnOk r P → (P → Q) → OnOk r Q
on_ok_so P Q (Ok x) h f = f h
on_ok_so P Q (Err e) h f = tt

-- sources stay where they are
fits_told : (a b : Draft) (word : ℕ) (s : Location) (src : Source) → Tells a b word s → Fits a src → Fits b src
fits_told a b word s (source.Word k) t h = let e = t.words in omega (arith, h, e)
fits_told a b word s (source.Input k) t h = tt
fits_told a b word s (source.Frame u) t h = record { within = location_more a.slots b.slots u t.slots h.within; written = λ k d lt. t.stays (get_or (location_slots u) k d) (h.written k d lt) }
fits_told a b word s (source.Constant c) t h = tt

sources_told : (S : Sources) (a b : Draft) (word : ℕ) (s : Location) → Tells a b word s → AreSources S a → AreSources S b
sources_told S a b word s t h = record {
  leaves = λ x src e. fits_told a b word s src t (h.leaves x src e);
  regions = λ m k e at. subst (λ n. InRegion n e.width e.region) (sym t.words) (h.regions m k e at);
}

pub contains_one : (x : Sink) → Contains (x ∷ []) x
contains_one x = (0, omega arith, refl)

-- the last word of a leaf is one of its words
further_below : (s : Shape) (first : ℕ) → first + further_words s.width < first + word_count s
further_below s first = by_test (nat_lt 64 s.width)
  where
    by_test : (b : Bool) → first + (if b then 1 else 0) < first + (if b then 2 else 1)
    by_test true = omega arith
    by_test false = omega arith

-- one register
pub one_register : (net : Net) (S : Sources) (n : ℕ) (register : NetRegister) (g : Ground) (old mid new : Draft) (s : Location) (word : ℕ) → slice_get net.registers n ≡ Some register
    → shape g (sources_table S) ≡ Some (register_shape net register)
    → ((instant : Instant) (held : ℤ) → integer_of (instant.leaf register.leaf) ≡ held → integer_of (value g instant) ≡ next_of_register net instant (Some register) held)
    → shape g (sources_table S) ≡ Some (location_shape s) → Emits S g old mid s → Publishes mid new word s → word ≡ register_word net n → PublishesSinks net S (A_register n ∷ []) old new
one_register net S n register g old mid new s word there shaped next_is at emits publishes is_word is srcs have =
    let m = emits is srcs in
    let same : location_shape s ≡ register_shape net register = some_same (sym at ∙ shaped) in
    let widths : further_words s.width ≡ further_words (register_shape net register).width = ap (λ (t : Shape). further_words t.width) same in
    let t0 = register_shape net register in
    let last : register_word net n + further_words t0.width < register_word net n + word_count t0 = further_below t0 (register_word net n) in
    let room = have (A_register n) (register_word net n + further_words t0.width) (contains_one (A_register n)) (of_register register there (omega arith, last)) in
    let kept = m.grows.words in
    let t = publishes m.grows.is m.stands (omega (arith, widths, room, is_word, kept)) in
    let first = m.grows.slots in
    let second = t.slots in
    record {
      is = t.is;
      are = sources_told S mid new word s t (sources_on S old mid m.grows srcs);
      words = t.words ∙ m.grows.words;
      slots = omega (arith, first, second);
      stays = λ k h. t.stays k (m.grows.stays k h);
      back = λ words inputs F sol. m.grows.back words inputs F (t.back words inputs F sol);
      tells = λ words inputs F instant st sol sees shows.
          let v = value g instant in
          let h = m.holds words inputs F v (t.back words inputs F sol) (instant, sees, refl) in
          let shape_is : shape_of_value v ≡ register_shape net register = h.shape ∙ same in
          let integer : integer_of v ≡ (next net st instant).registers n = next_is instant (st.registers n) (shows.registers n register there) ∙ ap (λ o. next_of_register net instant o (st.registers n)) (sym there) in
          let is_value : v ≡ fitted (register_shape net register).kind (register_shape net register).width ((next net st instant).registers n) = sym (refitted v)
          ∙ ap₂ (λ (u : Shape) i. fitted u.kind u.width i) shape_is integer in
          t.tells F v h ∙ (ap₂ (λ ps qs. ps ++ qs) (m.grows.quiet F) (ap₂ (λ w u. stored w u) is_word is_value ∙ sym (append-nil (stored (register_word net n) (fitted (register_shape net register).kind (register_shape net register).width ((next net st instant).registers n)))))
          ∙ ap (λ o. pushed_in old F ++ (register_told net st instant n o ++ [])) (sym there));
    }

-- none, and more sinks behind others

pub none_told : (net : Net) (S : Sources) (d : Draft) → IsDraft d → AreSources S d → TellsLeft net S (λ st instant. []) d d
none_told net S d is srcs = record {
  is = is;
  are = srcs;
  words = refl;
  slots = omega arith;
  stays = λ k h. h;
  back = λ words inputs F sol. sol;
  tells = λ words inputs F instant st sol sees shows. sym (append-nil (pushed_in d F));
}

pub told_then : (net : Net) (S : Sources) (V W : Left) (a b c : Draft) → TellsLeft net S V a b → TellsLeft net S W b c → TellsLeft net S (λ st instant. V st instant ++ W st instant) a c
told_then net S V W a b c f g =
    let one = f.slots in
    let two = g.slots in
    record {
      is = g.is;
      are = g.are;
      words = g.words ∙ f.words;
      slots = omega (arith, one, two);
      stays = λ k h. g.stays k (f.stays k h);
      back = λ words inputs F sol. f.back words inputs F (g.back words inputs F sol);
      tells = λ words inputs F instant st sol sees shows.
          g.tells words inputs F instant st sol sees shows
          ∙ (ap (λ ps. ps ++ W st instant) (f.tells words inputs F instant st (g.back words inputs F sol) sees shows) ∙ append_assoc (pushed_in a F) (V st instant) (W st instant));
    }

-- what is left is the same
pub told_as : (net : Net) (S : Sources) (V W : Left) (a b : Draft) → ((st : NetState) (instant : Instant) → V st instant ≡ W st instant) → TellsLeft net S V a b → TellsLeft net S W a b
told_as net S V W a b e f = record {
  is = f.is;
  are = f.are;
  words = f.words;
  slots = f.slots;
  stays = f.stays;
  back = f.back;
  tells = λ words inputs F instant st sol sees shows. f.tells words inputs F instant st sol sees shows ∙ ap (λ ps. pushed_in a F ++ ps) (e st instant);
}

pub no_sinks : (net : Net) (S : Sources) (d : Draft) → PublishesSinks net S [] d d
no_sinks net S d is srcs have = none_told net S d is srcs

pub sinks_then : (net : Net) (S : Sources) (xs ys : List Sink) (a b c : Draft) → PublishesSinks net S xs a b → PublishesSinks net S ys b c → PublishesSinks net S (xs ++ ys) a c
sinks_then net S xs ys a b c first next is srcs have =
    let f = first is srcs (λ sink i there h. have sink i (Contains-append_left xs ys sink there) h) in
    let kept = f.words in
    let g = next f.is f.are (λ sink i there h. let room = have sink i (Contains-append_right xs ys sink there) h in omega (arith, room, kept)) in
    told_as net S (λ st instant. sinks_told net st instant xs ++ sinks_told net st instant ys) (λ st instant. sinks_told net st instant (xs ++ ys)) a c
    (λ st instant. sym (flat_map-append (sink_told net st instant) xs ys))
    (told_then net S (λ st instant. sinks_told net st instant xs) (λ st instant. sinks_told net st instant ys) a b c f g)

-- the sinks of one pair more
pub sinks_more : (xs : List (ℕ × ℕ)) (k : ℕ) (d : ℕ × ℕ) → k < length xs
    → map (λ (both : ℕ × ℕ). A_register both.0) (take (k + 1) xs) ≡ map (λ (both : ℕ × ℕ). A_register both.0) (take k xs) ++ A_register (get_or xs k d).0 ∷ []
sinks_more xs k d lt = ap (map (λ (both : ℕ × ℕ). A_register both.0)) (take_more xs k d lt) ∙ map-append (λ (both : ℕ × ℕ). A_register both.0) (take k xs) (get_or xs k d ∷ [])
