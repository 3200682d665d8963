-- Each step keeps what holds at every moment.
use Rattle.std.proofs.Common.{◌≡◌, ◌≢◌, ℕ, zero, suc, ◌+◌, ◌-◌, ◌*◌, ◌/◌, ◌%◌, ◌<◌, ◌≤◌, List, [], ◌∷◌, ◌++◌, length, get_or, take, set, sym, refl, ap, ◌∙◌, subst, inl, inr, ⊎_elim, arith, length-set, get_or-set_same, get_or-set_other, Option, Some, None, lt_of_not-le, one-mul, add-one, mul-le-mul, add-mul}
use mathlib.Core.Option.{some, some-injective, some-ne-none}
use mathlib.Core.Logic.{dite}
use native.Mathlib.Decide.{dec_le, ℕ_discrete}
use lib.ListN.{get_elem?}
use Rattle.std.proofs.lemmas.List.{take_all}
use Rattle.std.proofs.lemmas.Bool.Decides.{nat_tests}
use Rattle.phase_core.specs.declared.model.Script.{Script}
use Rattle.phase_core.specs.declared.model.Publication.{Publication}
use Rattle.phase_core.specs.declared.model.View.{View}
use Rattle.phase_core.specs.Script.{owner, publications, published, values, IsScript}
use Rattle.phase_core.specs.Sound.{view, covers, width, weight, total, Live, shown, Sound}
use Rattle.phase_core.specs.Steps.{left_part, right_part, after_pass, after_arrival, after_publication, both}
use Rattle.phase_core.proofs.Facts.{Shaped, shape, sound}
use Rattle.phase_core.proofs.Shapes.{own_part, owner_below}
use Rattle.phase_core.proofs.Lists.{at_set, at_snoc, at_below, take_next, set_else}
use Rattle.phase_core.proofs.Totals.{total-set, total-gone, total-snoc, total_some, total_one, total_two, total_missing, some_passed}
use Rattle.phase_core.proofs.Values.{length-published, length-values, published-append, values-next}

abbrev Views : Type 0
Views = List (Option View)

unsome : (a b : View) → Some a ≡ Some b → a ≡ b
unsome a b e = ap (λ (o : Option View). elim o [ Some x ↦ x | None ↦ a ]) e

each_set : (P : ℕ → View → Type 0) (vs : Views) (id : ℕ) (w : View) → P id w → ((j : ℕ) (u : View) → j ≢ id → Live vs j u → P j u) → (j : ℕ) (u : View) → Live (set vs id (Some w)) j u → P j u
each_set P vs id w mine others j u e = ⊎_elim (λ (x : (j ≡ id) × (Some w ≡ Some u)). subst (λ (y : ℕ × View). P y.0 y.1) (λ i. (sym x.0 i, unsome w u x.1 i)) mine)
    (λ (x : (j ≢ id) × Live vs j u). others j u x.0 x.1) (at_set vs id j (Some w) (Some u) e)

each_gone : (P : ℕ → View → Type 0) (vs : Views) (id : ℕ) → ((j : ℕ) (u : View) → j ≢ id → Live vs j u → P j u) → (j : ℕ) (u : View) → Live (set vs id None) j u → P j u
each_gone P vs id others j u e = ⊎_elim (λ (x : (j ≡ id) × (None ≡ Some u)). absurd (let q = x.1 in cc))
    (λ (x : (j ≢ id) × Live vs j u). others j u x.0 x.1) (at_set vs id j None (Some u) e)

each_snoc : (P : ℕ → View → Type 0) (vs : Views) (w : View) → P (length vs) w → ((j : ℕ) (u : View) → Live vs j u → P j u) → (j : ℕ) (u : View) → Live (vs ++ Some w ∷ []) j u → P j u
each_snoc P vs w mine others j u e = ⊎_elim (λ (x : Live vs j u). others j u x)
    (λ (x : (j ≡ length vs) × (Some w ≡ Some u)). subst (λ (y : ℕ × View). P y.0 y.1) (λ i. (sym x.0 i, unsome w u x.1 i)) mine) (at_snoc vs (Some w) (Some u) j e)

only : (v : View) (P : View → Type 0) → P v → (j : ℕ) (u : View) → Live (Some v ∷ []) j u → P u
only v P h zero u e = subst P (unsome v u (some-injective (Some v) (Some u) e)) h
only v P h (suc j) u e = absurd (some-ne-none (Some u) (sym e))

-- tests
pub covers_in : (w : ℕ) (v : View) → v.low ≤ w → w < v.high → covers w v ≡ 1
covers_in w v a b = grind (arith, nat_tests)

pub covers_pos : (w : ℕ) (v : View) → 0 < covers w v → (v.low ≤ w) × (w < v.high)
covers_pos w v h = grind (arith, nat_tests)

pub covers_join : (w a b c k p d k' p' d' k'' p'' d'' : ℕ) → a < b → b < c → covers w (view a b k p d) + covers w (view b c k' p' d') ≡ covers w (view a c k'' p'' d'')
covers_join w a b c k p d k' p' d' k'' p'' d'' h h' = elim (dec_le a w) [
  | no below ↦ let lt : w < a = lt_of_not-le below in grind (arith, nat_tests)
  | yes from ↦ elim (dec_le b w) [ no left ↦ let lt : w < b = lt_of_not-le left in grind (arith, nat_tests) | yes right ↦ grind (arith, nat_tests) ]
]

module _ (s : Script) (is : IsScript s) where
  -- some live view covers each worker, and another does not
  pub covering : (vs : Views) (w : ℕ) → total (covers w) vs ≡ 1 → (j : ℕ) × (v : View) × Live vs j v × (v.low ≤ w) × (w < v.high)
  covering vs w one = let r = total_some (covers w) vs (omega arith) in let c = covers_pos w r.1 r.3 in (r.0, r.1, r.2, c.0, c.1)

  pub apart : (vs : Views) (w i j : ℕ) (u v : View) → total (covers w) vs ≡ 1 → i ≢ j → Live vs i u → Live vs j v → v.low ≤ w → w < v.high → u.low ≤ w → w < u.high → ⊥
  apart vs w i j u v one n e g a b a' b' = let two = total_two (covers w) vs i j u v n e g in let x = covers_in w u a' b' in let y = covers_in w v a b in omega arith

  -- one view changes its counts
  moved : (K K' : ℕ) (ws ws' : List ℕ) (vs : Views) (id : ℕ) (v : View) (k p d : ℕ) → Sound s K ws vs → Live vs id v → Shaped s (view v.low v.high k p d)
      → K' + weight v ≡ K + width v * k → v.arrivals ≤ k → ((j : ℕ) (u : View) → j ≢ id → Live vs j u → p ≤ u.arrivals) → length ws' ≡ length ws
      → ((i : ℕ) → i < length s.first → v.low ≤ owner s i → owner s i < v.high → get_or ws' i 0 ≡ shown s (view v.low v.high k p d) i)
      → ((j i : ℕ) (u : View) → j ≢ id → Live vs j u → i < length s.first → u.low ≤ owner s i → owner s i < u.high → get_or ws' i 0 ≡ get_or ws i 0)
      → Sound s K' ws' (set vs id (Some (view v.low v.high k p d)))
  moved K K' ws ws' vs id v k p d o at shaped sum up back size mine others = let w : View = view v.low v.high k p d in sound s _ _ _ record {
    covered = λ n h. let t = total-set (covers n) vs id v w at in let one = o.cover.each n h in omega arith;
    wide = let t = total-set width vs id v w at in let x = o.cover.widths in omega arith;
    shaped = each_set (λ j u. Shaped s u) vs id w shaped (λ j u n e. shape s _ _ _ o j u e);
    counted = let t = total-set weight vs id v w at in let x = o.barrier_sum in omega arith;
    near = λ i j u u' e g. each_set (λ a x. x.passed ≤ u'.arrivals) vs id w
        (each_set (λ b y. p ≤ y.arrivals) vs id w shaped.behind back j u' g)
        (λ a x n e'. each_set (λ b y. x.passed ≤ y.arrivals) vs id w (let q = o.none_far_ahead a id x v e' at in omega arith) (λ b y n' g'. o.none_far_ahead a b x y e' g') j u' g)
        i u e;
    size = size ∙ o.words_hold.size;
    shows = λ j i u e. each_set (λ a x. i < length s.first → x.low ≤ owner s i → owner s i < x.high → get_or ws' i 0 ≡ shown s x i) vs id w
        (λ h a b. mine i h a b)
        (λ a x n e' h low high. others a i x n e' h low high ∙ o.words_hold.each a i x e' h low high)
        j u e;
  }

  -- K is at most what the views have when each has arrived for the last time
  pub counted_low : (K : ℕ) (ws : List ℕ) (vs : Views) → Sound s K ws vs → K ≤ 2 * s.cycles * s.workers
  counted_low K ws vs o = let m = total_missing vs (2 * s.cycles) (λ j v e. (shape s _ _ _ o j v e).last) in let c = o.barrier_sum in let w = o.cover.widths in
      let q : total width vs * (2 * s.cycles) ≡ s.workers * (2 * s.cycles) = ap (λ n. n * (2 * s.cycles)) w in omega (arith, m, q)

  -- Arrive
  pub arrives : (K : ℕ) (ws : List ℕ) (vs : Views) (id : ℕ) (v : View) → Sound s K ws vs → Live vs id v → v.high ≡ v.low + 1 → v.arrivals ≡ v.passed → v.passed < 2 * s.cycles
      → (v.passed % 2 ≡ 1 → v.done ≡ length (publications s (v.passed / 2) v.low))
      → Sound s (K + 1) ws (set vs id (Some (after_arrival v)))
  arrives K ws vs id v o at single here before all = let f = shape s _ _ _ o id v at in
      moved K (K + 1) ws ws vs id v (v.arrivals + 1) v.passed v.done o at
      record {
        covers_some = f.covers_some;
        within = f.within;
        behind = let x = f.behind in omega arith;
        ahead = omega arith;
        last = omega arith;
        group = λ g. absurd (omega arith);
        even = f.even;
        odd = f.odd;
        all_done = λ x _. all x;
      }
      (let w1 : width v ≡ 1 = omega arith in let a : ℕ = v.arrivals in let q : width v * a ≡ a = ap (λ n. n * a) w1 ∙ one-mul a in
      let q' : width v * (a + 1) ≡ a + 1 = ap (λ n. n * (a + 1)) w1 ∙ one-mul (a + 1) in omega (arith, q, q'))
      (omega arith)
      (λ j u n e. o.none_far_ahead id j v u at e)
      refl
      (λ i h a b. o.words_hold.each id i v at h a b)
      (λ j i u n e h a b. refl)

  -- once the barrier says so, each live view has arrived
  pub all_here : (K : ℕ) (ws : List ℕ) (vs : Views) (q : ℕ) → Sound s K ws vs → s.workers * q ≤ K → (j : ℕ) (u : View) → Live vs j u → q ≤ u.arrivals
  all_here K ws vs q o enough j u e = ⊎_elim
      (λ (r : (i : ℕ) × (x : View) × Live vs i x × (q ≤ x.passed)). let n = o.none_far_ahead r.0 j r.1 u r.2 e in let h = r.3 in omega arith)
      (λ none.
      let most : (i : ℕ) (x : View) → Live vs i x → x.arrivals ≤ q = λ i x g. let a = (shape s _ _ _ o i x g).ahead in let b = none i x g in omega arith in
      let m = total_missing vs q most in let c = o.barrier_sum in let w : total width vs * q ≡ s.workers * q = ap (λ n. n * q) o.cover.widths in
      let one = total_one (λ x. width x * (q - x.arrivals)) vs j u e in
      let zero_left : width u * (q - u.arrivals) ≤ 0 = omega (arith, m, w, one) in
      elim (dec_le q u.arrivals) [
        | yes here ↦ here
        | no short ↦ let lt = lt_of_not-le short in let f = (shape s _ _ _ o j u e).covers_some in let a : 1 ≤ width u = omega arith in let b : 1 ≤ q - u.arrivals = omega arith in
            absurd (let p : 1 * 1 ≤ width u * (q - u.arrivals) = mul-le-mul a b in omega (arith, p, zero_left))
      ])
      (some_passed vs q)

  -- what a view shows stays when it passes
  pub shown-pass : (v : View) (i : ℕ) → Shaped s v → v.arrivals ≡ v.passed + 1 → v.low ≤ owner s i → owner s i < v.high → shown s (after_pass v) i ≡ shown s v i
  shown-pass v i f here low high = let p : ℕ = v.passed in dite (ℕ_discrete (p % 2) 0)
      (λ ev. let half : (p + 1) / 2 ≡ p / 2 = omega arith in let none = f.even ev in
      ap (λ (n : ℕ × ℕ). get_or (published (take n.0 (publications s n.1 (owner s i))) (values s n.1)) i 0) (λ t. (sym none t, half t)))
      (λ od. let is_odd : p % 2 ≡ 1 = omega arith in let half : (p + 1) / 2 ≡ suc (p / 2) = omega arith in let all = f.all_done is_odd here in
      let mine : owner s i ≡ v.low = elim (dec_le (v.low + 2) v.high) [ yes two ↦ absurd (let g = f.group (omega arith) in let g0 = g.0 in omega arith) | no one ↦ let lt = lt_of_not-le one in omega arith ] in
      let whole : take v.done (publications s (p / 2) (owner s i)) ≡ publications s (p / 2) (owner s i) = take_all v.done (publications s (p / 2) (owner s i))
      (subst (λ n. length (publications s (p / 2) n) ≤ v.done) (sym mine) (omega arith)) in
      ap (λ n. get_or (values s n) i 0) half ∙ values-next s (p / 2) i is ∙ ap (λ ps. get_or (published ps (values s (p / 2))) i 0) (sym whole))

  -- Pass
  pub passes : (K : ℕ) (ws : List ℕ) (vs : Views) (id : ℕ) (v : View) → Sound s K ws vs → Live vs id v → v.arrivals ≡ v.passed + 1 → s.workers * (v.passed + 1) ≤ K
      → Sound s K ws (set vs id (Some (after_pass v)))
  passes K ws vs id v o at here enough = let f = shape s _ _ _ o id v at in
      moved K K ws ws vs id v v.arrivals (v.passed + 1) 0 o at
      record {
        covers_some = f.covers_some;
        within = f.within;
        behind = omega arith;
        ahead = omega arith;
        last = f.last;
        group = λ g. absurd (let x = (f.group g).0 in omega arith);
        even = λ _. refl;
        odd = λ _. omega arith;
        all_done = λ _ x. absurd (omega arith);
      }
      refl
      (omega arith)
      (λ j u n e. all_here K ws vs (v.passed + 1) o enough j u e)
      refl
      (λ i h a b. o.words_hold.each id i v at h a b ∙ sym (shown-pass v i f here a b))
      (λ j i u n e h a b. refl)

  -- Publish
  pub publishes : (K : ℕ) (ws : List ℕ) (vs : Views) (id : ℕ) (v : View) (p : Publication) → Sound s K ws vs → Live vs id v → v.high ≡ v.low + 1 → v.arrivals ≡ v.passed → v.passed % 2 ≡ 1
      → get_elem? (publications s (v.passed / 2) v.low) v.done ≡ some p
      → Sound s K (set ws p.word p.value) (set vs id (Some (after_publication v)))
  publishes K ws vs id v p o at single here od next = let f = shape s _ _ _ o id v at in let c : ℕ = v.passed / 2 in let ps = publications s c v.low in
      let owned = own_part s is c v.low v.done p next in let room = at_below ps v.done p next in
      moved K K ws (set ws p.word p.value) vs id v v.arrivals v.passed (v.done + 1) o at
      record {
        covers_some = f.covers_some;
        within = f.within;
        behind = f.behind;
        ahead = f.ahead;
        last = f.last;
        group = f.group;
        even = λ ev. absurd (omega arith);
        odd = λ _. omega (arith, room);
        all_done = λ _ x. absurd (omega arith);
      }
      refl
      (omega arith)
      (λ j u n e. o.none_far_ahead id j v u at e)
      (length-set ws p.word p.value)
      (λ i h a b.
      let mine : owner s i ≡ v.low = omega arith in let old = o.words_hold.each id i v at h a b in
      let before : List ℕ = published (take v.done ps) (values s c) in
      let more : published (take (v.done + 1) ps) (values s c) ≡ set before p.word p.value = ap (λ n. published (take n ps) (values s c)) (add-one v.done)
      ∙ ap (λ qs. published qs (values s c)) (take_next ps v.done p next) ∙ published-append (take v.done ps) (p ∷ []) (values s c) in
      let long : length before ≡ length s.first = length-published (take v.done ps) (values s c) ∙ length-values s c in
      subst (λ n. get_or (set ws p.word p.value) i 0 ≡ get_or (published (take (v.done + 1) (publications s c n)) (values s c)) i 0) (sym mine)
      (dite (ℕ_discrete i p.word)
      (λ same. let in_words : p.word < length ws = let z = o.words_hold.size in let w = owned.0 in omega arith in let in_before : p.word < length before = let w = owned.0 in omega (arith, long) in
      subst (λ k. get_or (set ws p.word p.value) k 0 ≡ get_or (published (take (v.done + 1) ps) (values s c)) k 0) (sym same)
      (get_or-set_same ws p.word p.value 0 in_words ∙ sym (get_or-set_same before p.word p.value 0 in_before) ∙ ap (λ l. get_or l p.word 0) (sym more)))
      (λ other. get_or-set_other ws p.word i p.value 0 other ∙ old ∙ ap (λ n. get_or (published (take v.done (publications s c n)) (values s c)) i 0) mine
      ∙ sym (get_or-set_other before p.word i p.value 0 other) ∙ ap (λ l. get_or l i 0) (sym more))))
      (λ j i u n e h a b. get_or-set_other ws p.word i p.value 0
      (λ same. let mine : owner s i ≡ v.low = ap (owner s) same ∙ owned.1 in
      apart vs (owner s i) j id u v (o.cover.each (owner s i) (owner_below s is i h)) n e at (omega arith) (omega arith) a b))

  -- Split
  pub splits : (K : ℕ) (ws : List ℕ) (vs : Views) (id : ℕ) (v : View) (at : ℕ) → Sound s K ws vs → Live vs id v → v.arrivals ≡ 0 → v.low < at → at < v.high
      → Sound s K ws (set vs id (Some (left_part v at)) ++ Some (right_part v at) ∷ [])
  splits K ws vs id v at o here none low high = let f = shape s _ _ _ o id v here in let l : View = view v.low at 0 0 0 in let r : View = view at v.high 0 0 0 in let vs' : Views = set vs id (Some l) in
      let passed_none : v.passed ≡ 0 = let b = f.behind in omega arith in
      let done_none : v.done ≡ 0 = f.even (ap (λ n. n % 2) passed_none) in
      let same : (i : ℕ) → shown s v i ≡ get_or (published (take 0 (publications s 0 (owner s i))) (values s 0)) i 0 = λ i. ap (λ (n : ℕ × ℕ). get_or (published (take n.0 (publications s (n.1 / 2) (owner s i))) (values s (n.1 / 2))) i 0) (λ t. (done_none t, passed_none t)) in
      let part : (a b : ℕ) → a < b → b ≤ s.workers → Shaped s (view a b 0 0 0) = λ a b lt le. record {
        covers_some = lt;
        within = le;
        behind = omega arith;
        ahead = omega arith;
        last = omega arith;
        group = λ _. (refl, inl refl);
        even = λ _. refl;
        odd = λ x. omega arith;
        all_done = λ x y. absurd (omega arith);
      } in
      let idle : (j : ℕ) (u : View) → Live vs j u → u.passed ≡ 0 = λ j u e. let n = o.none_far_ahead j id u v e here in omega arith in
      let stays : l ≡ left_part v at = λ i. view v.low at (sym none i) (sym passed_none i) (sym done_none i) in
      subst (λ x. Sound s K ws (set vs id (Some x) ++ Some r ∷ [])) stays (sound s _ _ _ record {
        covered = λ n h. let t = total-set (covers n) vs id v l here in let t' = total-snoc (covers n) vs' r in let one = o.cover.each n h in
            let j = covers_join n v.low at v.high 0 0 0 0 0 0 v.arrivals v.passed v.done low high in omega arith;
        wide = let t = total-set width vs id v l here in let t' = total-snoc width vs' r in let x = o.cover.widths in omega arith;
        shaped = each_snoc (λ j u. Shaped s u) vs' r (part at v.high high f.within) (each_set (λ j u. Shaped s u) vs id l (part v.low at low (let w = f.within in omega arith)) (λ j u n e. shape s _ _ _ o j u e));
        counted = let t = total-set weight vs id v l here in let t' = total-snoc weight vs' r in let x = o.barrier_sum in let z : weight v ≡ width v * 0 = ap (λ n. width v * n) none in omega arith;
        near = λ i j u u' e g. each_snoc (λ a x. x.passed ≤ u'.arrivals) vs' r (omega arith)
            (each_set (λ a x. x.passed ≤ u'.arrivals) vs id l (omega arith) (λ a x n e'. let z = idle a x e' in omega arith)) i u e;
        size = o.words_hold.size;
        shows = λ j i u e. each_snoc (λ a x. i < length s.first → x.low ≤ owner s i → owner s i < x.high → get_or ws i 0 ≡ shown s x i) vs' r
            (λ h a b. o.words_hold.each id i v here h (omega arith) b ∙ same i)
            (each_set (λ a x. i < length s.first → x.low ≤ owner s i → owner s i < x.high → get_or ws i 0 ≡ shown s x i) vs id l
            (λ h a b. o.words_hold.each id i v here h a (omega arith) ∙ same i)
            (λ a x n e' h lo hi. o.words_hold.each a i x e' h lo hi))
            j u e;
      })

  -- Join
  pub joins : (K : ℕ) (ws : List ℕ) (vs : Views) (id other : ℕ) (v u : View) → Sound s K ws vs → Live vs id v → Live vs other u → other ≢ id
      → v.arrivals ≡ 2 * s.cycles → v.passed ≡ 2 * s.cycles → u.arrivals ≡ 2 * s.cycles → u.passed ≡ 2 * s.cycles → v.high ≡ u.low
      → Sound s K ws (set (set vs id (Some (both v u))) other None)
  joins K ws vs id other v u o here there apart_ k p k' p' meet = let f = shape s _ _ _ o id v here in let g = shape s _ _ _ o other u there in
      let w : View = both v u in let vs' : Views = set vs id (Some w) in
      let there' : Live vs' other u = set_else vs id other (Some w) apart_ ∙ there in
      let even_all : (n : ℕ) → n ≡ 2 * s.cycles → n % 2 ≡ 0 = λ n e. omega arith in
      let d : v.done ≡ 0 = f.even (even_all v.passed p) in let d' : u.done ≡ 0 = g.even (even_all u.passed p') in
      sound s _ _ _ record {
        covered = λ n h. let t = total-set (covers n) vs id v w here in let t' = total-gone (covers n) vs' other u there' in let one = o.cover.each n h in
            let j : covers n (view v.low u.low v.arrivals v.passed v.done) + covers n u ≡ covers n w = covers_join n v.low u.low u.high v.arrivals v.passed v.done u.arrivals u.passed u.done v.arrivals v.passed v.done (let x = f.covers_some in omega arith) g.covers_some in
            let j' : covers n v ≡ covers n (view v.low u.low v.arrivals v.passed v.done) = ap (λ z. covers n (view v.low z v.arrivals v.passed v.done)) meet in omega arith;
        wide = let t = total-set width vs id v w here in let t' = total-gone width vs' other u there' in let x = o.cover.widths in let a = f.covers_some in let b = g.covers_some in omega arith;
        shaped = each_gone (λ j x. Shaped s x) vs' other (λ j x n. each_set (λ j x. Shaped s x) vs id w
            record {
              covers_some = let a = f.covers_some in let b = g.covers_some in omega arith;
              within = g.within;
              behind = f.behind;
              ahead = f.ahead;
              last = f.last;
              group = λ _. (k ∙ sym p, inr p);
              even = f.even;
              odd = λ x. absurd (let e = even_all v.passed p in omega arith);
              all_done = λ x y. absurd (let e = even_all v.passed p in omega arith);
            }
            (λ j x n e. shape s _ _ _ o j x e) j x);
        counted = let t = total-set weight vs id v w here in let t' = total-gone weight vs' other u there' in let x = o.barrier_sum in let a = f.covers_some in let b = g.covers_some in
            let kk : u.arrivals ≡ v.arrivals = k' ∙ sym k in
            let sum : width w ≡ width v + width u = omega arith in
            let q : weight w ≡ weight v + weight u = ap (λ n. n * v.arrivals) sum ∙ add-mul (width v) (width u) v.arrivals ∙ ap (λ n. weight v + width u * n) (sym kk) in omega (arith, t, t', x, q);
        near = λ i j x y e e'. each_gone (λ a z. z.passed ≤ y.arrivals) vs' other
            (λ a z n. each_set (λ a z. z.passed ≤ y.arrivals) vs id w
            (each_gone (λ b z'. v.passed ≤ z'.arrivals) vs' other (λ b z' n'. each_set (λ b z'. v.passed ≤ z'.arrivals) vs id w f.behind (λ b z' n'' h. o.none_far_ahead id b v z' here h) b z') j y e')
            (λ a z m h. each_gone (λ b z'. z.passed ≤ z'.arrivals) vs' other (λ b z' n'. each_set (λ b z'. z.passed ≤ z'.arrivals) vs id w (o.none_far_ahead a id z v h here) (λ b z' n'' h'. o.none_far_ahead a b z z' h h') b z') j y e')
            a z)
            i x e;
        size = o.words_hold.size;
        shows = λ j i x e. each_gone (λ a z. i < length s.first → z.low ≤ owner s i → owner s i < z.high → get_or ws i 0 ≡ shown s z i) vs' other
            (λ a z n. each_set (λ a z. i < length s.first → z.low ≤ owner s i → owner s i < z.high → get_or ws i 0 ≡ shown s z i) vs id w
            (λ h lo hi. elim (dec_le u.low (owner s i)) [
              | yes right ↦ o.words_hold.each other i u there h right hi ∙ ap (λ (n : ℕ × ℕ). get_or (published (take n.0 (publications s (n.1 / 2) (owner s i))) (values s (n.1 / 2))) i 0) (λ t. ((d' ∙ sym d) t, (p' ∙ sym p) t))
              | no left ↦ let lt = lt_of_not-le left in o.words_hold.each id i v here h lo (omega arith)
            ])
            (λ a z m h hh lo hi. o.words_hold.each a i z h hh lo hi)
            a z)
            j x e;
      }

  -- Load: what a word shows in an even phase
  pub loads : (K : ℕ) (ws : List ℕ) (vs : Views) (id : ℕ) (v : View) (i : ℕ) → Sound s K ws vs → Live vs id v → v.arrivals ≡ v.passed → v.passed % 2 ≡ 0 → i < length s.first
      → get_or ws i 0 ≡ get_or (values s (v.passed / 2)) i 0
  loads K ws vs id v i o here rest ev h = let w = owner s i in let c = covering vs w (o.cover.each w (owner_below s is i h)) in let u = c.1 in let f = shape s _ _ _ o c.0 u c.2 in
      let shows = o.words_hold.each c.0 i u c.2 h c.3 c.4 in
      let up = o.none_far_ahead id c.0 v u here c.2 in let down = o.none_far_ahead c.0 id u v c.2 here in
      dite (ℕ_discrete u.passed v.passed)
      (λ same. let none : u.done ≡ 0 = f.even (ap (λ n. n % 2) same ∙ ev) in
      shows ∙ ap (λ (n : ℕ × ℕ). get_or (published (take n.0 (publications s (n.1 / 2) w)) (values s (n.1 / 2))) i 0) (λ t. (none t, same t)))
      (λ other. let lag : u.passed + 1 ≡ v.passed = let a = f.ahead in omega arith in let arrived : u.arrivals ≡ u.passed + 1 = let a = f.ahead in omega arith in
      shows ∙ sym (shown-pass u i f arrived c.3 c.4) ∙ ap (λ n. get_or (values s (n / 2)) i 0) lag)

  -- a view of all workers that has passed the last phase sees the last values
  pub closes : (K : ℕ) (ws : List ℕ) (vs : Views) (id : ℕ) (v : View) → Sound s K ws vs → Live vs id v → v.arrivals ≡ v.passed → v.passed ≡ 2 * s.cycles → (i : ℕ) → i < length s.first
      → get_or ws i 0 ≡ get_or (values s s.cycles) i 0
  closes K ws vs id v o here rest last i h = let half : v.passed / 2 ≡ s.cycles = omega arith in loads K ws vs id v i o here rest (omega arith) h ∙ ap (λ n. get_or (values s n) i 0) half

  -- Begin
  pub begins : Sound s 0 s.first (Some (view 0 s.workers 0 0 0) ∷ [])
  begins = let all : View = view 0 s.workers 0 0 0 in let one : (P : View → Type 0) → P all → (j : ℕ) (u : View) → Live (Some all ∷ []) j u → P u = only all in sound s _ _ _ record {
    covered = λ w h. let c : covers w all ≡ 1 = covers_in w all (omega arith) h in omega arith;
    wide = omega arith;
    shaped = one (Shaped s) record {
      covers_some = is.workers;
      within = omega arith;
      behind = omega arith;
      ahead = omega arith;
      last = omega arith;
      group = λ _. (refl, inl refl);
      even = λ _. refl;
      odd = λ x. omega arith;
      all_done = λ x y. absurd (omega arith);
    };
    counted = omega arith;
    near = λ i j u v e g. one (λ x. x.passed ≤ v.arrivals) (omega arith) i u e;
    size = refl;
    shows = λ j i u e. one (λ x. i < length s.first → x.low ≤ owner s i → owner s i < x.high → get_or s.first i 0 ≡ shown s x i) (λ h a b. refl) j u e;
  }
