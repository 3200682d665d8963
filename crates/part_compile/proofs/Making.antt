-- One sink after the other.
use Rattle.std.proofs.Common.{◌≡◌, ◌⊎◌, inl, inr, ⊎_elim, ◌↔◌, ℕ, ◌+◌, ◌<◌, ◌≤◌, ◌||◌, Bool, true, false, List, [], ◌∷◌, ◌++◌, map, length, slice_get, slice_index, get_or, nat_lt, if◌then◌else◌, Option, Some, None, refl, sym, subst, ap, ap₂, ◌∙◌, arith}
use Rattle.std.specs.Prelude.{Contains, IsTrue, flat_map, filter, filter_map, All}
use Rattle.std.specs.List.{cons_option}
use Rattle.std.proofs.lemmas.Bool.Decides.{nat_tests}
use Rattle.std.proofs.lemmas.Grind.{flat_map-append}
use Rattle.std.proofs.lemmas.List.{length-append, map-append, append-nil}
use Rattle.std.proofs.lemmas.List.Elements.{All-append, Contains-append_cases, Contains-append_left, Contains-append_right, filter-append, filter_map-append}
use Rattle.bit_words.specs.declared.value.Value.{Value}
use Rattle.ground_net.specs.declared.net.Net.{Net}
use Rattle.ground_net.specs.declared.ground.Ground.{Ground}
use Rattle.ground_net.specs.declared.ground.Ground.TheVariants.{Leaf}
use Rattle.ground_net.specs.Grounds.{Instant, value}
use Rattle.ground_net.specs.Cones.{Sink, A_watched, A_register, A_memory, sinks}
use Rattle.ground_net.proofs.Layers.{value-Leaf}
use Rattle.ground_net.specs.Cycles.{NetState}
use Rattle.flat_code.specs.declared.code.Span.{Span}
use Rattle.flat_code.specs.declared.instr.Location.{Location}
use Rattle.flat_code.specs.Meaning.{location_value, location_values}
use Rattle.flat_code.specs.Fine.{location_slots}
use Rattle.flat_code.proofs.Frames.{location_more}
use Rattle.partition_code.specs.Effects.{HasWord, sink_told, sinks_told}
use Rattle.code_draft.specs.declared.draft.Draft.{Draft}
use Rattle.code_draft.specs.Drafts.{IsDraft, Solved, Stands, pushed_in}
use Rattle.code_draft.proofs.Held.{held_value}
use Rattle.code_draft.specs.declared.sources.Sources.{Sources}
use Rattle.code_emit.specs.Emits.{Sees, AreSources, Emits}
use Rattle.code_emit.proofs.Emitting.{sources_on}
use Rattle.code_memories.specs.Telling.{TellsSinks, TellsLeft}
use Rattle.code_memories.proofs.NextWords.{none_told, told_then, told_as}
use Rattle.part_compile.specs.declared.work.Made.{Made}
use Rattle.partition_code.specs.Codes.{spans, is_among, HasWordAmong}
use Rattle.part_compile.specs.PartRows.{sinks_of, positions_in, seen_at, OwnsMore, Adds, SoFar}

nil_in : {A : Type 0} (x : A) → Contains {X = A} [] x → ⊥
nil_in x (k, below, is) = omega (arith, below)

false_true : false ≡ true → ⊥
false_true e = cc

-- spans, and more spans
or_cases : (a b : Bool) → (a || b) ≡ true → (a ≡ true) ⊎ (b ≡ true)
or_cases true b e = inl refl
or_cases false b e = inr e

or_left : (a b : Bool) → a ≡ true → (a || b) ≡ true
or_left true b e = refl
or_left false b e = absurd (false_true e)

or_right : (a b : Bool) → b ≡ true → (a || b) ≡ true
or_right true b e = refl
or_right false b e = e

pub among_cases : (xs ys : List Span) (i : ℕ) → is_among (xs ++ ys) i ≡ true → (is_among xs i ≡ true) ⊎ (is_among ys i ≡ true)
among_cases [] ys i e = inr e
among_cases (x ∷ xs) ys i e = ⊎_elim
    (λ h. inl (or_left (spans x i) (is_among xs i) h))
    (λ h. ⊎_elim (λ q. inl (or_right (spans x i) (is_among xs i) q)) (λ q. inr q) (among_cases xs ys i h))
    (or_cases (spans x i) (is_among (xs ++ ys) i) e)

pub among_left : (xs ys : List Span) (i : ℕ) → is_among xs i ≡ true → is_among (xs ++ ys) i ≡ true
among_left [] ys i e = absurd (false_true e)
among_left (x ∷ xs) ys i e = ⊎_elim
    (λ h. or_left (spans x i) (is_among (xs ++ ys) i) h)
    (λ h. or_right (spans x i) (is_among (xs ++ ys) i) (among_left xs ys i h))
    (or_cases (spans x i) (is_among xs i) e)

pub among_right : (xs ys : List Span) (i : ℕ) → is_among ys i ≡ true → is_among (xs ++ ys) i ≡ true
among_right [] ys i e = e
among_right (x ∷ xs) ys i e = or_right (spans x i) (is_among (xs ++ ys) i) (among_right xs ys i e)

-- the words of one sink more
words_more : (net : Net) (these : List Sink) (sink : Sink) (old new : List Span) → ((i : ℕ) → IsTrue (is_among old i) ↔ HasWordAmong net these i) → OwnsMore net sink old new
    → (i : ℕ) → IsTrue (is_among new i) ↔ HasWordAmong net (these ++ sink ∷ []) i
words_more net these sink old new h more i = (
  (λ e. ⊎_elim
      (λ q. let a = (h i).0 q in record { sink = a.sink; there = Contains-append_left these (sink ∷ []) a.sink a.there; has = a.has })
      (λ q. record { sink = sink; there = Contains-append_right these (sink ∷ []) sink (0, omega arith, refl); has = (more.own i).0 q })
      (among_cases old more.spans i (ap (λ l. is_among l i) (sym more.is) ∙ e))),
  (λ a. ap (λ l. is_among l i) more.is ∙ ⊎_elim
      (λ c. among_left old more.spans i ((h i).1 (record { sink = a.sink; there = c; has = a.has })))
      (λ c. among_right old more.spans i ((more.own i).1 (subst (λ s. HasWord net s i) (sym (only_one a.sink c)) a.has)))
      (Contains-append_cases these (sink ∷ []) a.sink a.there)),
)
  where
    only_one : (s : Sink) → Contains (sink ∷ []) s → sink ≡ s
    only_one s (k, below, is) = let e : k ≡ 0 = omega (arith, below) in rw e at is

-- locations that stood stand
stands_on : (net : Net) (S : Sources) (these : List Sink) (old new : Draft) (s : Location) → TellsSinks net S these old new → Stands old s → Stands new s
stands_on net S these old new s t h = record { within = location_more old.slots new.slots s t.slots h.within; written = λ k d lt. t.stays (get_or (location_slots s) k d) (h.written k d lt) }

module _ (net : Net) (watch : List ℕ) (S : Sources) (start : Draft) where
  pub none_so_far : (made : Made) → IsDraft start → AreSources S start → made.draft ≡ start → made.shown ≡ [] → made.positions ≡ [] → made.owned ≡ [] → SoFar net watch S start [] made
  none_so_far made is srcs draft shown positions owned = record {
    tells = subst (TellsSinks net S [] start) (sym draft) (none_told net S start is srcs);
    stand = subst (All (Stands made.draft)) (sym shown) (λ k d lt. absurd (omega (arith, lt)));
    positions = positions;
    paired = ap length positions ∙ sym (ap length shown);
    values = λ words inputs F instant sol sees. ap (location_values F) shown ∙ sym (ap (seen_at watch instant) positions);
    owned = λ i. ((λ e. absurd (false_true (ap (λ l. is_among l i) (sym owned) ∙ e))), (λ a. absurd (nil_in a.sink a.there)));
  }

  pub one_so_far : (numbers : List ℕ) (k : ℕ) (sink : Sink) (old new : Made) → slice_get (sinks net watch) k ≡ Some sink → SoFar net watch S start numbers old → Adds net watch S k sink old new
      → SoFar net watch S start (numbers ++ k ∷ []) new
  one_so_far numbers k sink old new there h a =
      let these = sinks_of net watch numbers in
      let listed : sinks_of net watch (numbers ++ k ∷ []) ≡ sinks_of net watch numbers ++ sink ∷ []
      = filter_map-append (slice_get (sinks net watch)) numbers (k ∷ []) ∙ ap (λ o. sinks_of net watch numbers ++ cons_option o []) there in
      let placed : new.positions ≡ positions_in watch (numbers ++ k ∷ [])
      = a.positions ∙ (ap (λ l. l ++ positions_in watch (k ∷ [])) h.positions ∙ sym (filter-append (λ j. nat_lt j (length watch)) numbers (k ∷ []))) in
      record {
        tells = told_as net S (λ st instant. sinks_told net st instant these ++ sinks_told net st instant (sink ∷ [])) (λ st instant. sinks_told net st instant (sinks_of net watch (numbers ++ k ∷ []))) start new.draft
            (λ st instant. sym (flat_map-append (sink_told net st instant) these (sink ∷ [])) ∙ ap (sinks_told net st instant) (sym listed))
            (told_then net S (λ st instant. sinks_told net st instant these) (λ st instant. sinks_told net st instant (sink ∷ [])) start old.draft new.draft h.tells a.tells);
        stand = subst (All (Stands new.draft)) (sym a.shown)
            (All-append (Stands new.draft) old.shown a.locations (λ j d lt. stands_on net S (sink ∷ []) old.draft new.draft (get_or old.shown j d) a.tells (h.stand j d lt)) a.stand);
        positions = placed;
        paired = long (length new.positions) (length new.shown) (length old.positions) (length (positions_in watch (k ∷ []))) (length old.shown) (length a.locations)
            (ap length a.positions ∙ length-append old.positions (positions_in watch (k ∷ []))) (ap length a.shown ∙ length-append old.shown a.locations) h.paired a.paired;
        values = λ words inputs F instant sol sees.
            ap (location_values F) a.shown ∙ (map-append (location_value F) old.shown a.locations
            ∙ (ap₂ (λ vs us. vs ++ us) (h.values words inputs F instant (a.tells.back words inputs F sol) sees) (a.values words inputs F instant sol sees)
            ∙ (sym (map-append (λ j. instant.leaf (slice_index watch j)) old.positions (positions_in watch (k ∷ []))) ∙ ap (seen_at watch instant) (sym a.positions))));
        owned = subst (λ l. (i : ℕ) → IsTrue (is_among new.owned i) ↔ HasWordAmong net l i) (sym listed) (words_more net these sink old.owned new.owned h.owned a.owned);
      }
    where
      long : (n m a b c d : ℕ) → n ≡ a + b → m ≡ c + d → a ≡ c → b ≡ d → n ≡ m
      long n m a b c d e f g h = omega (arith, e, f, g, h)

-- a position, and what is none

position_in : (watch : List ℕ) (k : ℕ) → k < length watch → positions_in watch (k ∷ []) ≡ k ∷ []
position_in watch k lt = by_test (nat_lt k (length watch)) (grind (arith, nat_tests, lt))
  where
    by_test : (b : Bool) → b ≡ true → (if b then k ∷ [] else []) ≡ k ∷ []
    by_test true e = refl
    by_test false e = absurd (false_true e)

position_out : (watch : List ℕ) (k : ℕ) → length watch ≤ k → positions_in watch (k ∷ []) ≡ []
position_out watch k le = by_test (nat_lt k (length watch)) (grind (arith, nat_tests, le))
  where
    by_test : (b : Bool) → b ≡ false → (if b then k ∷ [] else []) ≡ []
    by_test true e = absurd (false_true (sym e))
    by_test false e = refl

-- a watched leaf
pub watched_adds : (net : Net) (watch : List ℕ) (S : Sources) (k x : ℕ) (old new : Made) (s : Location) → k < length watch → slice_index watch k ≡ x → IsDraft old.draft → AreSources S old.draft
    → Emits S (Leaf x) old.draft new.draft s → new.shown ≡ old.shown ++ s ∷ [] → new.positions ≡ old.positions ++ k ∷ [] → new.owned ≡ old.owned → Adds net watch S k (A_watched x) old new
watched_adds net watch S k x old new s lt at is srcs emits shown positions owned =
    let m = emits is srcs in
    let one = position_in watch k lt in
    record {
      tells = record {
        is = m.grows.is;
        are = sources_on S old.draft new.draft m.grows srcs;
        words = m.grows.words;
        slots = m.grows.slots;
        stays = m.grows.stays;
        back = m.grows.back;
        tells = λ words inputs F instant st sol sees shows. m.grows.quiet F ∙ sym (append-nil (pushed_in old.draft F));
      };
      locations = s ∷ [];
      shown = shown;
      stand = λ j d jt. let z : j ≡ 0 = omega (arith, jt) in subst (λ i. Stands new.draft (get_or (s ∷ []) i d)) (sym z) m.stands;
      positions = positions ∙ ap (λ l. old.positions ++ l) (sym one);
      paired = ap length one;
      values = λ words inputs F instant sol sees.
          ap (λ v. v ∷ []) (held_value F s (instant.leaf x) (m.holds words inputs F (instant.leaf x) sol (instant, sees, sym (value-Leaf x instant))) ∙ ap instant.leaf (sym at))
          ∙ sym (ap (seen_at watch instant) one);
      owned = record {
        spans = [];
        is = owned ∙ sym (append-nil old.owned);
        own = λ i. ((λ e. absurd (false_true e)), (λ h. elim h [ ]));
      };
    }

-- a sink that leaves words
pub kept_adds : (net : Net) (watch : List ℕ) (S : Sources) (k : ℕ) (sink : Sink) (old new : Made) → length watch ≤ k → TellsSinks net S (sink ∷ []) old.draft new.draft → new.shown ≡ old.shown
    → new.positions ≡ old.positions → OwnsMore net sink old.owned new.owned → Adds net watch S k sink old new
kept_adds net watch S k sink old new le tells shown positions owned =
    let none = position_out watch k le in
    record {
      tells = tells;
      locations = [];
      shown = shown ∙ sym (append-nil old.shown);
      stand = λ j d jt. absurd (omega (arith, jt));
      positions = positions ∙ (sym (append-nil old.positions) ∙ ap (λ l. old.positions ++ l) (sym none));
      paired = ap length none;
      values = λ words inputs F instant sol sees. sym (ap (seen_at watch instant) none);
      owned = owned;
    }
