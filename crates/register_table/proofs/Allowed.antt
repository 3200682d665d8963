-- Each step of a seat keeps the rule.
use Rattle.std.proofs.Common.{false, ◌≡◌, ◌≢◌, ℕ, zero, suc, ◌+◌, ◌-◌, ◌*◌, ◌/◌, ◌%◌, ◌^◌, ◌<◌, ◌≤◌, List, [], ◌∷◌, ◌++◌, map, length, drop, get_or, set, sym, refl, ap, ◌∙◌, subst, ⊎_elim, arith, Option, Some, None, lt_of_not-le, mul-le-mul_left, add-one}
use mathlib.Core.Option.{none, some, some-injective, some-ne-none}
use mathlib.Core.List.{map-append}
use native.Mathlib.Decide.{dec_le}
use lib.ListN.{get_elem?}
use lib.Seq.{map-set}
use Rattle.atomic_table.specs.Table.{State, step, keeps, Allows, Splits, Joins, Seen, Final}
use Rattle.atomic_table.proofs.Lists.{at_map, set_again, set_else}
use Rattle.phase_core.specs.declared.model.Script.{Script}
use Rattle.phase_core.specs.declared.model.Publication.{Publication}
use Rattle.phase_core.specs.declared.model.View.{View}
use Rattle.phase_core.specs.Script.{publications, values, IsScript}
use Rattle.phase_core.specs.Sound.{view, Live, Sound}
use Rattle.phase_core.specs.Steps.{left_part, right_part, after_pass, after_arrival, after_publication, both}
use Rattle.phase_core.proofs.Lists.{at_set, at_snoc, at_below, at_index, at-get_or}
use Rattle.std.proofs.lemmas.List.{ext_get_or}
use Rattle.phase_core.proofs.Values.{length-values}
use Rattle.phase_core.proofs.Keeps.{arrives, passes, publishes, splits, joins, loads, begins, counted_low}
use Rattle.phase_core.proofs.Shapes.{counted_part}
use Rattle.phase_core.proofs.Runs.{last_words}
use Rattle.phase_core.specs.declared.model.PhaseState.{PhaseState}
use Rattle.register_table.specs.declared.plays.Held.{Held}
use Rattle.register_table.specs.Rule.{Holds, Sat, seated, view_of, looked, arrived, loaded, published, left_of, right_of, both_of, spent_of}

abbrev St : Type 0
St = State (Unit {0}) Held

abbrev Views : Type 0
Views = List (Option View)

module _ (s : Script) (script : IsScript s) where
  abbrev Rule : St → Type 0
  Rule st = Holds s st.words st.views

  -- each seat still knows the script
  knows : (hs : List Held) (id : ℕ) (v : Option View) → ((j : ℕ) (h : Held) → get_elem? hs j ≡ some h → h.script ≡ s) → (j : ℕ) (h : Held) → get_elem? (set hs id (record { view = v; script = s })) j ≡ some h → h.script ≡ s
  knows hs id v all j h e = ⊎_elim (λ (x : (j ≡ id) × (record { view = v; script = s } ≡ h)). sym (ap (λ (g : Held). g.script) x.1))
      (λ (x : (j ≢ id) × (get_elem? hs j ≡ some h)). all j h x.1) (at_set hs id j (record { view = v; script = s }) h e)

  -- What a step of the seat id on the word i owes, over plain lists
  abbrev pub Owes : ℕ → View → ℕ → (ℕ → ℕ) → (ℕ → View → Type 0) → Type 0
  Owes id v i f then = (b : ℕ) (ws : List ℕ) (vs : Views) → Sound s b ws vs → Live vs id v → get_or (b ∷ ws) i 0 < 18446744073709551616
      → (w : View) × (b' : ℕ) × (ws' : List ℕ) × (set (b ∷ ws) i (f (get_or (b ∷ ws) i 0)) ≡ b' ∷ ws') × Sound s b' ws' (set vs id (Some w)) × then (get_or (b ∷ ws) i 0) w

  pub allowed : (slots id i : ℕ) (me : Sat) (v : View) (f : ℕ → ℕ) (then : ℕ → Sat → Type 0) → me ≡ (seated v s, []) → Owes id v i f (λ n w. then n (seated w s, [])) → Allows Rule slots id me i f then
  allowed slots id i me v f then is owes st r _ at small =
      let b = r.barrier in let ws = r.data_words in let vs : Views = map view_of st.views in
      let live : Live vs id v = at_map view_of st.views id me.0 at ∙ ap (λ (m : Sat). some m.0.view) is in
      let small' : get_or (b ∷ ws) i 0 < 18446744073709551616 = subst (λ l. get_or l i 0 < 18446744073709551616) r.words_are small in
      let o = owes b ws vs r.sound live small' in
      let w = o.0 in
      let now : get_or st.words i 0 ≡ get_or (b ∷ ws) i 0 = ap (λ l. get_or l i 0) r.words_are in (
        seated w s,
        keeps,
        tt,
        record {
          knows = knows st.views id (Some w) r.knows;
          barrier = o.1;
          data_words = o.2;
          words_are = ap (λ l. set l i (f (get_or l i 0))) r.words_are ∙ o.3;
          sound = subst (Sound s o.1 o.2) (sym (map-set view_of st.views id (seated w s))) o.4;
        },
        subst (λ (x : ℕ × List (ℕ × Unit {0})). then x.0 (seated w s, x.1)) (λ k. (sym now k, sym (ap (λ (m : Sat). m.1) is) k)) o.5,
      )

  -- the phases are counted within 64 bits
  few : (p : ℕ) → p < 2 * s.cycles → p + 1 < 2 ^ 64
  few p before = let m : 2 * s.cycles * 1 ≤ 2 * s.cycles * s.workers = mul-le-mul_left (2 * s.cycles) script.workers in let f = script.fits in omega (arith, m, f)

  pub arrive-allowed : (slots id : ℕ) (me : Sat) (v : View) → me ≡ (seated v s, []) → v.high ≡ v.low + 1 → v.arrivals ≡ v.passed → v.passed < 2 * s.cycles
      → (v.passed % 2 ≡ 1 → v.done ≡ length (publications s (v.passed / 2) v.low)) → Allows Rule slots id me 0 (λ n. (n + 1) % 2 ^ 64) (arrived (step slots 0 1 0 none) me)
  arrive-allowed slots id me v is single rest before all = allowed slots id 0 me v (λ n. (n + 1) % 2 ^ 64) (arrived (step slots 0 1 0 none) me) is
      (λ b ws vs o live small. let a = arrives s script b ws vs id v o live single rest before all in let k = counted_low s script (b + 1) ws (set vs id (Some (after_arrival v))) a in let fits = script.fits in
      let sum : (b + 1) % 18446744073709551616 ≡ b + 1 = omega arith in
      (after_arrival v, b + 1, ws, ap (λ n. n ∷ ws) sum, a, subst (λ (m : Sat). arrived (step slots 0 1 0 none) m b (seated (after_arrival v) s, [])) (sym is) (refl, few v.passed before)))

  pub look-allowed : (slots id : ℕ) (me : Sat) (v : View) → me ≡ (seated v s, []) → v.arrivals ≡ v.passed + 1 → Allows Rule slots id me 0 (λ n. n) (looked s (step slots 0 0 0 none) me)
  look-allowed slots id me v is here = allowed slots id 0 me v (λ n. n) (looked s (step slots 0 0 0 none) me) is
      (λ b ws vs o live small. elim (dec_le (s.workers * (v.passed + 1)) b) [
        | yes enough ↦ (after_pass v, b, ws, refl, passes s script b ws vs id v o live here enough, subst (λ (m : Sat). looked s (step slots 0 0 0 none) m b (seated (after_pass v) s, [])) (sym is) ((λ _. refl), λ lt. absurd (omega arith)))
        | no few_yet ↦ let lt = lt_of_not-le few_yet in
            (v, b, ws, refl, subst (Sound s b ws) (sym (set_again vs id (Some v) live)) o, subst (λ (m : Sat). looked s (step slots 0 0 0 none) m b (seated v s, [])) (sym is) ((λ le. absurd (few_yet le)), λ _. refl))
      ])

  pub load-allowed : (slots id n i : ℕ) (me : Sat) (v : View) → n ≡ suc i → me ≡ (seated v s, []) → v.arrivals ≡ v.passed → v.passed % 2 ≡ 0 → i < length s.first
      → Allows Rule slots id me n (λ x. x) (loaded s (step slots n 0 0 none) me)
  load-allowed slots id n i me v at is rest ev inside = subst (λ k. Allows Rule slots id me k (λ x. x) (loaded s (step slots k 0 0 none) me)) (sym at)
      (allowed slots id (suc i) me v (λ x. x) (loaded s (step slots (suc i) 0 0 none) me) is
      (λ b ws vs o live small. let z = o.words_hold.size in let same : set ws i (get_or ws i 0) ≡ ws = set_again ws i (get_or ws i 0) (at_index ws i 0 (omega arith)) in (
        v,
        b,
        ws,
        ap (λ l. b ∷ l) same,
        subst (Sound s b ws) (sym (set_again vs id (Some v) live)) o,
        subst (λ (m : Sat). loaded s (step slots (suc i) 0 0 none) m (get_or ws i 0) (seated v s, [])) (sym is)
            (refl, loads s script b ws vs id v i o live rest ev inside ∙ ap (λ k. get_or (values s (v.passed / 2)) k 0) (let q : i ≡ suc i - 1 = omega arith in q)),
      )))

  pub publish-allowed : (slots id n : ℕ) (me : Sat) (v : View) (p : Publication) → n ≡ suc p.word → me ≡ (seated v s, []) → v.high ≡ v.low + 1 → v.arrivals ≡ v.passed → v.passed % 2 ≡ 1
      → get_elem? (publications s (v.passed / 2) v.low) v.done ≡ some p
      → Allows Rule slots id me n (λ _. p.value) (λ _. published (step slots n p.value 0 none) me p.value)
  publish-allowed slots id n me v p at is single rest od next = subst (λ k. Allows Rule slots id me k (λ _. p.value) (λ _. published (step slots k p.value 0 none) me p.value)) (sym at)
      (allowed slots id (suc p.word) me v (λ _. p.value) (λ _. published (step slots (suc p.word) p.value 0 none) me p.value) is
      (λ b ws vs o live small. let room = counted_part s script (v.passed / 2) v.low in let below = at_below (publications s (v.passed / 2) v.low) v.done p next in (
        after_publication v,
        b,
        set ws p.word p.value,
        refl,
        publishes s script b ws vs id v p o live single rest od next,
        subst (λ (m : Sat). published (step slots (suc p.word) p.value 0 none) m p.value (seated (after_publication v) s, [])) (sym is) (refl, omega (arith, room, below)),
      )))

  pub split-allowed : (id : ℕ) (h : Held) (v : View) (at : ℕ) → h ≡ seated v s → v.arrivals ≡ 0 → v.low < at → at < v.high → Splits Rule id h (left_of at h) (right_of at h)
  split-allowed id h v at is none_yet low high st r here = let l : Held = seated (left_part v at) s in let r' : Held = seated (right_part v at) s in
      let live : Live (map view_of st.views) id v = at_map view_of st.views id h here ∙ ap (λ (g : Held). some g.view) is in
      let sound = splits s script r.barrier r.data_words (map view_of st.views) id v at r.sound live none_yet low high in
      subst (λ (g : Held). Holds s st.words (set st.views id (left_of at g) ++ right_of at g ∷ [])) (sym is) record {
        knows = λ j g e. ⊎_elim (λ x. knows st.views id (Some (left_part v at)) r.knows j g x) (λ (x : (j ≡ length (set st.views id l)) × (r' ≡ g)). sym (ap (λ (y : Held). y.script) x.1)) (at_snoc (set st.views id l) r' g j e);
        barrier = r.barrier;
        data_words = r.data_words;
        words_are = r.words_are;
        sound = subst (Sound s r.barrier r.data_words) (sym (map-append view_of (set st.views id l) (r' ∷ []) ∙ ap (λ (x : Views). x ++ Some (right_part v at) ∷ []) (map-set view_of st.views id l))) sound;
      }

  pub join-allowed : (id : ℕ) (h : Held) (v : View) (other : ℕ) (g : Held) (u : View) → h ≡ seated v s → g ≡ seated u s
      → v.arrivals ≡ 2 * s.cycles → v.passed ≡ 2 * s.cycles → u.arrivals ≡ 2 * s.cycles → u.passed ≡ 2 * s.cycles → v.high ≡ u.low
      → Joins Rule id h other g (both_of h g) (spent_of s)
  join-allowed id h v other g u is is' k p k' p' meet st r here apart_ there = let w : Held = seated (both v u) s in
      let two : both_of h g ≡ w = ap (λ (x : Held × Held). both_of x.0 x.1) (λ i. (is i, is' i)) in
      let live : Live (map view_of st.views) id v = at_map view_of st.views id h here ∙ ap (λ (y : Held). some y.view) is in
      let there' : get_elem? st.views other ≡ some g = sym (set_else st.views id other (both_of h g) apart_) ∙ there in
      let live' : Live (map view_of st.views) other u = at_map view_of st.views other g there' ∙ ap (λ (y : Held). some y.view) is' in
      let sound = joins s script r.barrier r.data_words (map view_of st.views) id other v u r.sound live live' apart_ k p k' p' meet in
      subst (λ (y : Held). Holds s st.words (set (set st.views id y) other (spent_of s))) (sym two) record {
        knows = knows (set st.views id w) other None (knows st.views id (Some (both v u)) r.knows);
        barrier = r.barrier;
        data_words = r.data_words;
        words_are = r.words_are;
        sound = subst (Sound s r.barrier r.data_words) (sym (map-set view_of (set st.views id w) other (spent_of s) ∙ ap (λ (x : Views). set x other None) (map-set view_of st.views id w))) sound;
      }

  pub opens : Holds s (0 ∷ s.first) (seated (view 0 s.workers 0 0 0) s ∷ [])
  opens = record { knows = only_knows; barrier = 0; data_words = s.first; words_are = refl; sound = begins s script }
    where
      only_knows : (j : ℕ) (h : Held) → get_elem? (seated (view 0 s.workers 0 0 0) s ∷ []) j ≡ some h → h.script ≡ s
      only_knows zero h e = sym (ap (λ (y : Held). y.script) (some-injective (seated (view 0 s.workers 0 0 0) s) h e))
      only_knows (suc j) h e = absurd (some-ne-none h (sym e))

  -- the data words of a table that is closed by a seat that has passed the last phase
  pub closed-words : (words : List ℕ) (xs : List (Unit {0})) (id : ℕ) (h : Held) (v : View) → h ≡ seated v s → v.passed ≡ 2 * s.cycles → Final (Seen Rule id h) words xs → drop 1 words ≡ values s s.cycles
  closed-words words xs id h v is last f = let st = f.0 in let r = f.1.0 in
      let t : PhaseState = record { barrier = r.barrier; words = r.data_words; views = map view_of st.views; closed = false } in
      let live : Live t.views id v = at_map view_of st.views id h f.1.1 ∙ ap (λ (y : Held). some y.view) is in
      ap (λ (l : List ℕ). drop 1 l) (sym f.2 ∙ r.words_are) ∙ last_words s t id v script r.sound live last

  -- they are what was copied from behind the barrier
  pub closed-values : (words into : List ℕ) → drop 1 words ≡ values s s.cycles → length into ≡ length s.first → ((i : ℕ) → i < length s.first → get_or into i 0 ≡ get_or words (i + 1) 0) → into ≡ values s s.cycles
  closed-values words into end long copied = ext_get_or 0 into (values s s.cycles) (long ∙ sym (length-values s s.cycles))
      (λ i inside. copied i (omega (arith, long, inside)) ∙ behind words i ∙ ap (λ l. get_or l i 0) end)
    where
      behind : (l : List ℕ) (i : ℕ) → get_or l (i + 1) 0 ≡ get_or (drop 1 l) i 0
      behind [] i = refl
      behind (x ∷ xs) i = ap (λ n. get_or (x ∷ xs) n 0) (add-one i)

pub there : (l : List ℕ) (i a : ℕ) → get_elem? l i ≡ some a → a ≡ get_or l i 0
there l i a e = sym (at-get_or l i a 0 e)
