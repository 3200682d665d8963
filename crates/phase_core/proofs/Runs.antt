-- Whatever the steps are, what holds at every moment is kept.
use Rattle.std.proofs.Common.{◌≡◌, ◌≢◌, ℕ, zero, suc, ◌+◌, ◌*◌, ◌/◌, ◌%◌, ◌<◌, ◌≤◌, Bool, true, false, cond, List, [], ◌∷◌, ◌++◌, length, get_or, set, sym, refl, ap, ◌∙◌, subst, arith, mul-le-mul_left, add-one, take, ◌^◌, Option, Some, None}
use Rattle.std.specs.Prelude.{slice_get}
use mathlib.Core.Option.{some, some-injective}
use lib.ListN.{get_elem?}
use Rattle.std.proofs.lemmas.Bool.Decides.{nat_tests}
use Rattle.phase_core.specs.declared.model.Script.{Script}
use Rattle.phase_core.specs.declared.model.Publication.{Publication}
use Rattle.phase_core.specs.declared.model.View.{View}
use Rattle.phase_core.specs.declared.model.PhaseState.{PhaseState}
use Rattle.phase_core.specs.declared.model.Step.{Step}
use Rattle.phase_core.specs.declared.model.Step.TheVariants.{Split, Stay, Pass, Arrive, Load, Publish, Join, Close}
use Rattle.std.proofs.lemmas.List.{ext_get_or}
use Rattle.phase_core.specs.Script.{publications, values, IsScript}
use Rattle.phase_core.specs.Sound.{part_of, Live}
use Rattle.phase_core.specs.Steps.{SoundState, live_view, may_split, may_stay, may_pass, may_arrive, may_load, may_publish, may_join, may_close, next_of, left_part, right_part, after_pass, after_arrival, after_publication, both, put, on_live, on_next, when, split_step, stepped, or_else, run, begun}
use Rattle.phase_core.proofs.Keeps.{arrives, passes, publishes, splits, joins, counted_low, begins, loads}
use Rattle.phase_core.proofs.Shapes.{own_part}
use Rattle.phase_core.proofs.Lists.{at_index, take_next, set-snoc}
use Rattle.phase_core.proofs.Values.{length-values}

pub live_at : (vs : List (Option View)) (j : ℕ) (v : View) → get_or vs j None ≡ Some v → Live vs j v
live_at [] j v e = absurd (let q = e in cc)
live_at (x ∷ xs) zero v e = ap some e
live_at (x ∷ xs) (suc j) v e = live_at xs j v e

pub live_of : (t : PhaseState) (j : ℕ) (v : View) → live_view t j ≡ Some v → Live t.views j v
live_of t j v e = open_state t.closed refl
  where
    open_state : (b : Bool) → t.closed ≡ b → Live t.views j v
    open_state true is = absurd (let q : cond true None (get_or t.views j None) ≡ Some v = subst (λ c. cond c None (get_or t.views j None) ≡ Some v) is e in cc)
    open_state false is = live_at t.views j v (subst (λ c. cond c None (get_or t.views j None) ≡ Some v) is e)

pub next_at : (ps : List Publication) (n : ℕ) (p : Publication) → slice_get ps n ≡ Some p → get_elem? ps n ≡ some p
next_at [] n p e = absurd (let q = e in cc)
next_at (x ∷ xs) zero p e = ap (λ (o : Option Publication). elim o [ Some y ↦ some y | None ↦ some x ]) e
next_at (x ∷ xs) (suc n) p e = next_at xs n p e

unsome : (a b : View) → Some a ≡ Some b → a ≡ b
unsome a b e = ap (λ (o : Option View). elim o [ Some x ↦ x | None ↦ a ]) e

abbrev pub stored : PhaseState → ℕ → View → Publication → PhaseState
stored t j v p = record t { words = set t.words p.word p.value; views = set t.views j (Some (after_publication v)) }

abbrev pub joined : PhaseState → ℕ → ℕ → View → View → PhaseState
joined t j i v u = record t { views = set (set t.views j (Some (both v u))) i None }

module _ (s : Script) (is : IsScript s) where
  split_facts : (v : View) (at : ℕ) → may_split v at ≡ true → (v.arrivals ≡ 0) × (v.low < at) × (at < v.high)
  split_facts v at h = (grind (arith, nat_tests), grind (arith, nat_tests), grind (arith, nat_tests))

  pass_facts : (t : PhaseState) (v : View) → may_pass s t v ≡ true → (v.arrivals ≡ v.passed + 1) × (s.workers * (v.passed + 1) ≤ t.barrier)
  pass_facts t v h = (grind (arith, nat_tests), grind (arith, nat_tests))

  arrive_facts : (v : View) → may_arrive s v ≡ true → (v.high ≡ v.low + 1) × (v.arrivals ≡ v.passed) × (v.passed < 2 * s.cycles) × (v.passed % 2 ≡ 1 → v.done ≡ length (publications s (v.passed / 2) v.low))
  arrive_facts v h = (grind (arith, nat_tests), grind (arith, nat_tests), grind (arith, nat_tests), λ od. grind (arith, nat_tests))

  publish_facts : (v : View) → may_publish v ≡ true → (v.high ≡ v.low + 1) × (v.arrivals ≡ v.passed) × (v.passed % 2 ≡ 1)
  publish_facts v h = (grind (arith, nat_tests), grind (arith, nat_tests), grind (arith, nat_tests))

  join_facts : (v u : View) → may_join s v u ≡ true → (v.arrivals ≡ 2 * s.cycles) × (v.passed ≡ 2 * s.cycles) × (u.arrivals ≡ 2 * s.cycles) × (u.passed ≡ 2 * s.cycles) × (v.high ≡ u.low)
  join_facts v u h = (grind (arith, nat_tests), grind (arith, nat_tests), grind (arith, nat_tests), grind (arith, nat_tests), grind (arith, nat_tests))

  kept_when : (t u : PhaseState) (b : Bool) → SoundState s t → (b ≡ true → SoundState s u) → SoundState s (or_else (when b u) t)
  kept_when t u true old new = new refl
  kept_when t u false old new = old

  kept_live : (t : PhaseState) (o : Option View) (go : View → Option PhaseState) → SoundState s t → ((v : View) → o ≡ Some v → SoundState s (or_else (go v) t)) → SoundState s (or_else (on_live o go) t)
  kept_live t None go old new = old
  kept_live t (Some v) go old new = new v refl

  kept_next : (t : PhaseState) (o : Option Publication) (go : Publication → Option PhaseState) → SoundState s t → ((p : Publication) → o ≡ Some p → SoundState s (or_else (go p) t)) → SoundState s (or_else (on_next o go) t)
  kept_next t None go old new = old
  kept_next t (Some p) go old new = new p refl

  -- where a live view is there, and its test holds
  kept : (t : PhaseState) (o : Option View) (may : View → Bool) (go : View → PhaseState) → SoundState s t → ((v : View) → o ≡ Some v → may v ≡ true → SoundState s (go v))
      → SoundState s (or_else (on_live o (λ v. when (may v) (go v))) t)
  kept t o may go old new = kept_live t o (λ v. when (may v) (go v)) old (λ v e. kept_when t (go v) (may v) old (new v e))

  apart_views : (t : PhaseState) (i j : ℕ) (v u : View) → SoundState s t → Live t.views j v → Live t.views i u → v.high ≡ u.low → i ≢ j
  apart_views t i j v u o here there meet same = let w : v ≡ u = unsome v u (some-injective (Some v) (Some u) (sym here ∙ ap (λ n. get_elem? t.views n) (sym same) ∙ there)) in
      let f = (o.cover.spans j v here).0 in let h : u.low ≡ v.low = ap (λ (x : View). x.low) (sym w) in omega arith

  pub after_sound : (t : PhaseState) (x : Step) → SoundState s t → SoundState s (or_else (stepped s t x) t)
  after_sound t (Split j at) o = kept t (live_view t j) (λ v. may_split v at) (λ v. record t { views = set t.views j (Some (left_part v at)) ++ Some (right_part v at) ∷ [] }) o
      (λ v e h. let f = split_facts v at h in splits s is t.barrier t.words t.views j v at o (live_of t j v e) f.0 f.1 f.2)
  after_sound t (Stay j) o = kept t (live_view t j) (may_stay s t) (λ v. t) o (λ v e h. o)
  after_sound t (Pass j) o = kept t (live_view t j) (may_pass s t) (λ v. put t j (after_pass v)) o
      (λ v e h. let f = pass_facts t v h in passes s is t.barrier t.words t.views j v o (live_of t j v e) f.0 f.1)
  after_sound t (Arrive j) o = kept t (live_view t j) (may_arrive s) (λ v. record t { barrier = t.barrier + 1; views = set t.views j (Some (after_arrival v)) }) o
      (λ v e h. let f = arrive_facts v h in arrives s is t.barrier t.words t.views j v o (live_of t j v e) f.0 f.1 f.2 f.3)
  after_sound t (Load j word) o = kept t (live_view t j) (λ v. may_load t v word) (λ v. t) o (λ v e h. o)
  after_sound t (Publish j) o = kept_live t (live_view t j) (λ v. on_next (next_of s v) (λ p. when (may_publish v) (stored t j v p))) o
      (λ v e. kept_next t (next_of s v) (λ p. when (may_publish v) (stored t j v p)) o
      (λ p n. kept_when t (stored t j v p) (may_publish v) o
      (λ h. let f = publish_facts v h in publishes s is t.barrier t.words t.views j v p o (live_of t j v e) f.0 f.1 f.2 (next_at (part_of s v) v.done p n))))
  after_sound t (Join j i) o = kept_live t (live_view t j) (λ v. on_live (live_view t i) (λ u. when (may_join s v u) (joined t j i v u))) o
      (λ v e. kept_live t (live_view t i) (λ u. when (may_join s v u) (joined t j i v u)) o
      (λ u e'. kept_when t (joined t j i v u) (may_join s v u) o
      (λ h. let f = join_facts v u h in
      joins s is t.barrier t.words t.views j i v u o (live_of t j v e) (live_of t i u e') (apart_views t i j v u o (live_of t j v e) (live_of t i u e') f.4) f.0 f.1 f.2 f.3 f.4)))
  after_sound t (Close j) o = kept t (live_view t j) (may_close s) (λ v. record t { closed = true }) o (λ v e h. o)

  pub run_sound : (t : PhaseState) (xs : List Step) → SoundState s t → SoundState s (run s t xs)
  run_sound t [] o = o
  run_sound t (x ∷ xs) o = run_sound (or_else (stepped s t x) t) xs (after_sound t x o)

  -- what the code counts fits
  pub arrival_room : (t : PhaseState) (j : ℕ) (v : View) → SoundState s t → live_view t j ≡ Some v → may_arrive s v ≡ true → (t.barrier + 1 < 2 ^ 64) × (v.arrivals + 1 < 2 ^ 64)
  arrival_room t j v o e h = let f = arrive_facts v h in let here = live_of t j v e in
      let a = counted_low s is (t.barrier + 1) t.words (set t.views j (Some (after_arrival v))) (arrives s is t.barrier t.words t.views j v o here f.0 f.1 f.2 f.3) in
      let m : 2 * s.cycles * 1 ≤ 2 * s.cycles * s.workers = mul-le-mul_left (2 * s.cycles) is.workers in let g = is.fits in let k = f.1 in let l = f.2 in
      (omega (arith, a, g), omega (arith, m, g, k, l))

  pub publication_room : (t : PhaseState) (v : View) (p : Publication) → SoundState s t → next_of s v ≡ Some p → p.word < length t.words
  publication_room t v p o e = let own = own_part s is (v.passed / 2) v.low v.done p (next_at (part_of s v) v.done p e) in let z = o.words_hold.size in let w = own.0 in omega arith

pub begun_sound : (s : Script) → IsScript s → SoundState s (begun s)
begun_sound s is = begins s is

pub run-snoc : (s : Script) (t : PhaseState) (xs : List Step) (x : Step) → run s t (xs ++ x ∷ []) ≡ or_else (stepped s (run s t xs) x) (run s t xs)
run-snoc s t [] x = refl
run-snoc s t (y ∷ ys) x = run-snoc s (or_else (stepped s t y) t) ys x

pub run_more : (s : Script) (t u : PhaseState) (xs : List Step) (i : ℕ) (d : Step) → i < length xs → u ≡ or_else (stepped s (run s t (take i xs)) (get_or xs i d)) (run s t (take i xs)) → u ≡ run s t (take (i + 1) xs)
run_more s t u xs i d h e = e ∙ sym (run-snoc s t (take i xs) (get_or xs i d)) ∙ ap (λ l. run s t l) (sym (take_next xs i (get_or xs i d) (at_index xs i d h))) ∙ ap (λ n. run s t (take n xs)) (sym (add-one i))

-- what the code of a split leaves, which appends first
pub split_done : (t : PhaseState) (j at : ℕ) (v : View) (a b : List (Option View)) → Some v ≡ live_view t j → v.arrivals ≡ 0 → v.low < at → at < v.high → j < length t.views
    → a ≡ t.views ++ Some (right_part v at) ∷ [] → b ≡ set a j (Some (left_part v at)) → record t { views = b } ≡ or_else (split_step t j at) t
split_done t j at v a b live fresh low high within pushed put_in =
    let may : may_split v at ≡ true = grind (arith, nat_tests) in
    let is : b ≡ set t.views j (Some (left_part v at)) ++ Some (right_part v at) ∷ [] = put_in ∙ ap (λ l. set l j (Some (left_part v at))) pushed ∙ set-snoc t.views j (Some (left_part v at)) (Some (right_part v at)) within in
    let made : View → PhaseState = λ u. record t { views = set t.views j (Some (left_part u at)) ++ Some (right_part u at) ∷ [] } in
    subst (λ o. record t { views = b } ≡ or_else (on_live o (λ u. when (may_split u at) (made u))) t) live
    (subst (λ c. record t { views = b } ≡ or_else (when c (made v)) t) (sym may) (ap (λ l. record t { views = l }) is))

-- the laws
pub loads_cycle : (s : Script) (t : PhaseState) (j c i : ℕ) (v : View) → IsScript s → SoundState s t → Live t.views j v → v.passed ≡ 2 * c → v.arrivals ≡ 2 * c → i < length t.words
    → get_or t.words i 0 ≡ get_or (values s c) i 0
loads_cycle s t j c i v is o live passed arrivals inside = let z = o.words_hold.size in let half : v.passed / 2 ≡ c = omega arith in
    loads s is t.barrier t.words t.views j v i o live (arrivals ∙ sym passed) (omega arith) (omega arith) ∙ ap (λ n. get_or (values s n) i 0) half

pub last_words : (s : Script) (t : PhaseState) (j : ℕ) (v : View) → IsScript s → SoundState s t → Live t.views j v → v.passed ≡ 2 * s.cycles → t.words ≡ values s s.cycles
last_words s t j v is o live last = let n = o.counts j v live in let a = n.behind in let b = n.last in let z = o.words_hold.size in
    ext_get_or 0 t.words (values s s.cycles) (z ∙ sym (length-values s s.cycles)) (λ i inside. loads_cycle s t j s.cycles i v is o live last (omega arith) inside)
