-- The change that each call makes on the table is a step of the core.
use Rattle.std.proofs.Common.{◌≡◌, ℕ, zero, suc, ◌+◌, ◌*◌, ◌%◌, ◌<◌, ◌≤◌, Bool, true, false, List, [], ◌∷◌, ◌++◌, map, length, drop, get_or, set, sym, ap, ◌∙◌, subst, arith, Option, Some, None, add-one}
use Rattle.std.specs.Prelude.{slice_get}
use mathlib.Core.Option.{none, some, some-ne-none}
use mathlib.Core.List.{map-append}
use mathlib.Core.Logic.{dite}
use native.Mathlib.Decide.{ℕ_discrete}
use lib.ListN.{get_elem?}
use lib.Seq.{map-set}
use Rattle.std.proofs.lemmas.Bool.Decides.{nat_tests}
use Rattle.atomic_table.proofs.Lists.{at_map, set_again}
use Rattle.phase_core.specs.declared.model.Script.{Script}
use Rattle.phase_core.specs.declared.model.Publication.{Publication}
use Rattle.phase_core.specs.declared.model.View.{View}
use Rattle.phase_core.specs.declared.model.PhaseState.{PhaseState}
use Rattle.phase_core.specs.declared.model.Step.{Step}
use Rattle.phase_core.specs.declared.model.Step.TheVariants.{Split, Stay, Pass, Arrive, Load, Publish, Join}
use Rattle.phase_core.specs.Sound.{part_of, Live, Sound}
use Rattle.phase_core.specs.Steps.{left_part, right_part, after_pass, after_arrival, after_publication, may_split, may_stay, may_pass, may_arrive, may_load, may_publish, may_join, may_close, next_of, put, on_live, on_next, when, stepped}
use Rattle.phase_core.proofs.Lists.{at_index, at-get_or}
use Rattle.phase_core.proofs.Keeps.{arrives, counted_low}
use Rattle.phase_core.proofs.Runs.{stored, joined}
use Rattle.register_table.specs.Rule.{Sat, view_of, seated, left_of, right_of, both_of, spent_of}
use Rattle.register_table.specs.Laws.{Table, core_state, IsStep, played, sitting, Seated, SharesAsSplit, LooksAsStay, LooksAsPass, ArrivesAsArrive, ReadsAsLoad, PublishesAsPublish, UnitesAsJoin, FinishesAsClose, StaysSound}

-- the word i becomes n, and the seat id has the view v
abbrev changed : Script → Table → ℕ → ℕ → ℕ → View → Table
changed s t i n id v = played t i n id (sitting s v)

-- what the play tells of the seat is that it has the view w
as_told : (s : Script) (t : Table) (x : Step) (i n id : ℕ) (w : View) (m : Sat) → m ≡ sitting s w → IsStep s t x (changed s t i n id w) → IsStep s t x (played t i n id m)
as_told s t x i n id w m is step = subst (λ (y : Sat). IsStep s t x (played t i n id y)) (sym is) step

abbrev Views : Type 0
Views = List (Option View)

abbrev state : ℕ → List ℕ → Views → PhaseState
state b ws vs = record { barrier = b; words = ws; views = vs; closed = false }

next_is : (ps : List Publication) (n : ℕ) (p : Publication) → get_elem? ps n ≡ some p → slice_get ps n ≡ Some p
next_is [] n p e = absurd (some-ne-none p (sym e))
next_is (x ∷ xs) zero p e = ap (λ o. elim o as (λ _. Option Publication) [ some y ↦ Some y | none ↦ None ]) e
next_is (x ∷ xs) (suc n) p e = next_is xs n p e

-- where the view is live and its test holds, the step is taken
step_taken : (vs : Views) (id : ℕ) (v : View) (may : View → Bool) (go : View → PhaseState) → Live vs id v → may v ≡ true → on_live (get_or vs id None) (λ w. when (may w) (go w)) ≡ Some (go v)
step_taken vs id v may go live holds = ap (λ o. on_live o (λ w. when (may w) (go w))) (at-get_or vs id (Some v) None live) ∙ ap (λ b. when b (go v)) holds

module _ (s : Script) (t : Table) (id : ℕ) (v : View) (at : Seated s t id v) where
  abbrev B : ℕ
  B = at.rule.barrier

  abbrev W : List ℕ
  W = at.rule.data_words

  abbrev V : Views
  V = map view_of t.views

  live : Live V id v
  live = at_map view_of t.views id (seated v s) at.seat

  -- the table by its barrier and its data words
  seen : core_state t ≡ state B W V
  seen = ap (λ l. state (get_or l 0 0) (drop 1 l) V) at.rule.words_are

  -- the table once a word and a view changed
  after : (i : ℕ) (f : ℕ → ℕ) (w : View) → core_state (changed s t i (f (get_or t.words i 0)) id w)
      ≡ state (get_or (set (B ∷ W) i (f (get_or (B ∷ W) i 0))) 0 0) (drop 1 (set (B ∷ W) i (f (get_or (B ∷ W) i 0)))) (set V id (Some w))
  after i f w = λ k. let l = at.rule.words_are k in state (get_or (set l i (f (get_or l i 0))) 0 0) (drop 1 (set l i (f (get_or l i 0)))) (map-set view_of t.views id (seated w s) k)

  first : get_or t.words 0 0 ≡ B
  first = ap (λ l. get_or l 0 0) at.rule.words_are

pub shares : SharesAsSplit
shares s t id at v a fresh low high = ap (λ u. stepped s u (Split id at)) (seen s t id v a)
    ∙ step_taken (V s t id v a) id v (λ w. may_split w at) (λ w. state (B s t id v a) (W s t id v a) (set (V s t id v a) id (Some (left_part w at)) ++ Some (right_part w at) ∷ [])) (live s t id v a) (grind (arith, nat_tests))
    ∙ ap Some (λ k. let l = sym a.rule.words_are k in state (get_or l 0 0) (drop 1 l) (sym (map-append view_of (set t.views id (left_of at (seated v s))) (right_of at (seated v s) ∷ []) ∙ ap (λ (x : Views). x ++ Some (right_part v at) ∷ []) (map-set view_of t.views id (left_of at (seated v s)))) k))

stays_is : (s : Script) (t : Table) (id : ℕ) (v : View) → Seated s t id v → v.arrivals ≡ v.passed + 1 → get_or t.words 0 0 < s.workers * (v.passed + 1) → IsStep s t (Stay id) (changed s t 0 (get_or t.words 0 0) id v)
stays_is s t id v a here few = let b = first s t id v a in ap (λ u. stepped s u (Stay id)) (seen s t id v a)
    ∙ step_taken (V s t id v a) id v (may_stay s (state (B s t id v a) (W s t id v a) (V s t id v a))) (λ w. state (B s t id v a) (W s t id v a) (V s t id v a)) (live s t id v a) (let lt : a.rule.barrier < s.workers * (v.passed + 1) = omega arith in grind (arith, nat_tests))
    ∙ ap (λ l. Some (state (B s t id v a) (W s t id v a) l)) (sym (set_again (V s t id v a) id (Some v) (live s t id v a))) ∙ ap Some (sym (after s t id v a 0 (λ n. n) v))

pub stays : LooksAsStay
stays s t id v x m a here few told = as_told s t (Stay id) 0 (get_or t.words 0 0) id v m (told.1 few) (stays_is s t id v a here few)

passes_is : (s : Script) (t : Table) (id : ℕ) (v : View) → Seated s t id v → v.arrivals ≡ v.passed + 1 → s.workers * (v.passed + 1) ≤ get_or t.words 0 0 → IsStep s t (Pass id) (changed s t 0 (get_or t.words 0 0) id (after_pass v))
passes_is s t id v a here enough = let b = first s t id v a in ap (λ u. stepped s u (Pass id)) (seen s t id v a)
    ∙ step_taken (V s t id v a) id v (may_pass s (state (B s t id v a) (W s t id v a) (V s t id v a))) (λ w. put (state (B s t id v a) (W s t id v a) (V s t id v a)) id (after_pass w)) (live s t id v a) (let le : s.workers * (v.passed + 1) ≤ a.rule.barrier = omega arith in grind (arith, nat_tests))
    ∙ ap Some (sym (after s t id v a 0 (λ n. n) (after_pass v)))

pub passes : LooksAsPass
passes s t id v x m a here enough told = as_told s t (Pass id) 0 (get_or t.words 0 0) id (after_pass v) m (told.0 enough) (passes_is s t id v a here enough)

may_arrive_is : (s : Script) (v : View) → v.high ≡ v.low + 1 → v.arrivals ≡ v.passed → v.passed < 2 * s.cycles → (v.passed % 2 ≡ 1 → v.done ≡ length (part_of s v)) → may_arrive s v ≡ true
may_arrive_is s v one rest before all = dite (ℕ_discrete (v.passed % 2) 0)
    (λ ev. grind (arith, nat_tests))
    (λ od. let is : v.passed % 2 ≡ 1 = omega arith in let done = all is in grind (arith, nat_tests))

arrives_so : (s : Script) (t : Table) (id : ℕ) (v : View) → Seated s t id v → v.high ≡ v.low + 1 → v.arrivals ≡ v.passed → v.passed < 2 * s.cycles → (v.passed % 2 ≡ 1 → v.done ≡ length (part_of s v))
    → IsStep s t (Arrive id) (changed s t 0 ((get_or t.words 0 0 + 1) % 18446744073709551616) id (after_arrival v))
arrives_so s t id v a one rest before all =
    let k = counted_low s a.script (a.rule.barrier + 1) a.rule.data_words (set (map view_of t.views) id (Some (after_arrival v)))
    (arrives s a.script a.rule.barrier a.rule.data_words (map view_of t.views) id v a.rule.sound (live s t id v a) one rest before all) in
    let fits = a.script.fits in
    let sum : (a.rule.barrier + 1) % 18446744073709551616 ≡ a.rule.barrier + 1 = omega (arith, k, fits) in
    ap (λ u. stepped s u (Arrive id)) (seen s t id v a)
    ∙ step_taken (V s t id v a) id v (may_arrive s) (λ w. state (B s t id v a + 1) (W s t id v a) (set (V s t id v a) id (Some (after_arrival w)))) (live s t id v a) (may_arrive_is s v one rest before all)
    ∙ ap (λ n. Some (state n (W s t id v a) (set (V s t id v a) id (Some (after_arrival v))))) (sym sum) ∙ ap Some (sym (after s t id v a 0 (λ n. (n + 1) % 18446744073709551616) (after_arrival v)))

pub arrives_is : ArrivesAsArrive
arrives_is s t id v x m a one rest before all told =
    as_told s t (Arrive id) 0 ((get_or t.words 0 0 + 1) % 18446744073709551616) id (after_arrival v) m told.0 (arrives_so s t id v a one rest before all)

reads_so : (s : Script) (t : Table) (id word : ℕ) (v : View) → Seated s t id v → v.arrivals ≡ v.passed → v.passed % 2 ≡ 0 → word < length s.first → IsStep s t (Load id word) (changed s t (word + 1) (get_or t.words (word + 1) 0) id v)
reads_so s t id word v a rest ev inside = let size = a.rule.sound.words_hold.size in let within : word < length a.rule.data_words = omega (arith, size, inside) in
    ap (λ u. stepped s u (Load id word)) (seen s t id v a)
    ∙ step_taken (V s t id v a) id v (λ w. may_load (state (B s t id v a) (W s t id v a) (V s t id v a)) w word) (λ w. state (B s t id v a) (W s t id v a) (V s t id v a)) (live s t id v a) (grind (arith, nat_tests))
    ∙ (λ k. Some (state (B s t id v a) (sym (set_again a.rule.data_words word (get_or a.rule.data_words word 0) (at_index a.rule.data_words word 0 within)) k) (sym (set_again (V s t id v a) id (Some v) (live s t id v a)) k)))
    ∙ ap Some (sym (after s t id v a (suc word) (λ n. n) v)) ∙ ap (λ i. Some (core_state (changed s t i (get_or t.words i 0) id v))) (sym (add-one word))

pub reads : ReadsAsLoad
reads s t id word v x m a rest ev inside told = as_told s t (Load id word) (word + 1) (get_or t.words (word + 1) 0) id v m told.0 (reads_so s t id word v a rest ev inside)

may_publish_is : (v : View) → v.high ≡ v.low + 1 → v.arrivals ≡ v.passed → v.passed % 2 ≡ 1 → may_publish v ≡ true
may_publish_is v one rest od = grind (arith, nat_tests)

may_join_is : (s : Script) (v u : View) → v.arrivals ≡ 2 * s.cycles → v.passed ≡ 2 * s.cycles → u.arrivals ≡ 2 * s.cycles → u.passed ≡ 2 * s.cycles → v.high ≡ u.low → may_join s v u ≡ true
may_join_is s v u k p k' p' meet = grind (arith, nat_tests)

publishes_so : (s : Script) (t : Table) (id : ℕ) (v : View) (p : Publication) → Seated s t id v → v.high ≡ v.low + 1 → v.arrivals ≡ v.passed → v.passed % 2 ≡ 1 → get_elem? (part_of s v) v.done ≡ some p
    → IsStep s t (Publish id) (changed s t (p.word + 1) p.value id (after_publication v))
publishes_so s t id v p a one rest od next =
    ap (λ u. stepped s u (Publish id)) (seen s t id v a)
    ∙ ap (λ o. on_live o (λ w. on_next (next_of s w) (λ q. when (may_publish w) (stored (state (B s t id v a) (W s t id v a) (V s t id v a)) id w q)))) (at-get_or (V s t id v a) id (Some v) None (live s t id v a))
    ∙ ap (λ o. on_next o (λ q. when (may_publish v) (stored (state (B s t id v a) (W s t id v a) (V s t id v a)) id v q))) (next_is (part_of s v) v.done p next)
    ∙ ap (λ b. when b (stored (state (B s t id v a) (W s t id v a) (V s t id v a)) id v p)) (may_publish_is v one rest od)
    ∙ ap Some (sym (after s t id v a (suc p.word) (λ n. p.value) (after_publication v))) ∙ ap (λ i. Some (core_state (changed s t i p.value id (after_publication v)))) (sym (add-one p.word))

pub publishes_is : PublishesAsPublish
publishes_is s t id v p x m a one rest od next told = as_told s t (Publish id) (p.word + 1) p.value id (after_publication v) m told.0 (publishes_so s t id v p a one rest od next)

pub unites : UnitesAsJoin
unites s t id other v u a there k p k' p' meet =
    ap (λ x. stepped s x (Join id other)) (seen s t id v a)
    ∙ ap (λ o. on_live o (λ w. on_live (get_or (V s t id v a) other None) (λ y. when (may_join s w y) (joined (state (B s t id v a) (W s t id v a) (V s t id v a)) id other w y)))) (at-get_or (V s t id v a) id (Some v) None (live s t id v a))
    ∙ ap (λ o. on_live o (λ y. when (may_join s v y) (joined (state (B s t id v a) (W s t id v a) (V s t id v a)) id other v y))) (at-get_or (V s t id v a) other (Some u) None (at_map view_of t.views other (seated u s) there))
    ∙ ap (λ b. when b (joined (state (B s t id v a) (W s t id v a) (V s t id v a)) id other v u)) (may_join_is s v u k p k' p' meet)
    ∙ ap Some (λ i. let l = sym a.rule.words_are i in state (get_or l 0 0) (drop 1 l)
    (sym (map-set view_of (set t.views id (both_of (seated v s) (seated u s))) other (spent_of s) ∙ ap (λ (x : Views). set x other None) (map-set view_of t.views id (both_of (seated v s) (seated u s)))) i))

pub finishes : FinishesAsClose
finishes s t id v a low high last = step_taken (V s t id v a) id v (may_close s) (λ w. record (core_state t) { closed = true }) (live s t id v a) (grind (arith, nat_tests))

pub stays_sound : StaysSound
stays_sound s t h = subst (λ (l : List ℕ). Sound s (get_or l 0 0) (drop 1 l) (map view_of t.views)) (sym h.words_are) h.sound
