-- What a vertex reads, itself or through others.
use Rattle.std.proofs.Common.{◌≡◌, ◌≢◌, ℕ, zero, suc, ◌+◌, ◌<◌, ◌≤◌, List, [], ◌∷◌, ◌++◌, length, take, slice_get, slice_index, slice_set, Some, refl, sym, subst, ap, ◌∙◌, arith, ⊎_elim, inl, inr, ◌⊎◌, get_or}
use Rattle.std.specs.Prelude.{replicate}
use Rattle.std.specs.List.{All}
use Rattle.std.proofs.lemmas.Bool.{cases_eq, cases_lt}
use Rattle.std.proofs.lemmas.List.{length-set, length_push, get_or-take, length-take-le}
use Rattle.std.proofs.lemmas.List.Sums.{sum_by-set}
use Rattle.std.proofs.lemmas.Option.{slice_get_within, slice_get-get_or}
use Rattle.std.specs.declared.alloc.Global.{Global}
use Rattle.std.specs.declared.vec.Vec.{Vec}
use Rattle.comb_order.specs.Graph.{AreVertices, Graph, Reads, Through, itself, others, OnLoop}
use Rattle.comb_order.specs.Search.{Stands}
use Rattle.comb_order.specs.Reach.{Spreads, Reaching, NeverRises}
use Rattle.comb_order.proofs.Steps.{set_here, set_there, push_old, push_new, push_cases, stands_push, stands_last}

-- spreading

pub spreads_none : (marks waiting : List ℕ) → Spreads [] marks waiting marks waiting
spreads_none marks waiting = record {
  long = refl;
  kept = λ v e. e;
  met = λ k lt. absurd (omega arith);
  only = λ v e. inl e;
  stays = λ v h. h;
  waits_only = λ v h. inl h;
  count = omega arith;
}

row_more : (row : List ℕ) (x v : ℕ) → Stands row v → Stands (row ++ x ∷ []) v
row_more row x v h = stands_push row x v h

pub spreads_met : (row old before new after : List ℕ) (x : ℕ) → Spreads row old before new after → slice_index new x ≡ 0 → Spreads (row ++ x ∷ []) old before new after
spreads_met row old before new after x h z = record {
  long = h.long;
  kept = h.kept;
  met = λ k lt. ⊎_elim (λ less. ap (λ y. slice_index new y) (push_old row x k less) ∙ h.met k less) (λ end. ap (λ y. slice_index new y) (push_new row x k end) ∙ z) (push_cases row x k lt);
  only = λ v e. ⊎_elim (λ o. inl o) (λ s. inr (row_more row x v s.0, s.1)) (h.only v e);
  stays = h.stays;
  waits_only = λ v s. ⊎_elim (λ o. inl o) (λ r. inr (row_more row x v r)) (h.waits_only v s);
  count = h.count;
}

pub spreads_new : (row old before new after : List ℕ) (x : ℕ) → Spreads row old before new after → x < length new → slice_index new x ≢ 0
    → Spreads (row ++ x ∷ []) old before (slice_set new x 0) (after ++ x ∷ [])
spreads_new row old before new after x h inside fresh =
    let sum = sum_by-set (λ y. y) new x 0 0 inside in
    record {
      long = length-set new x 0 ∙ h.long;
      kept = λ v e. ⊎_elim (λ q. set_here new x 0 v inside q) (λ n. set_there new x 0 v n ∙ h.kept v e) (cases_eq v x);
      met = λ k lt. ⊎_elim
          (λ less. ap (λ y. slice_index (slice_set new x 0) y) (push_old row x k less)
          ∙ ⊎_elim (λ q. set_here new x 0 (slice_index row k) inside q) (λ n. set_there new x 0 (slice_index row k) n ∙ h.met k less) (cases_eq (slice_index row k) x))
          (λ end. set_here new x 0 (slice_index (row ++ x ∷ []) k) inside (push_new row x k end)) (push_cases row x k lt);
      only = λ v e. ⊎_elim
          (λ q. inr (subst (Stands (row ++ x ∷ [])) (sym q) (stands_last row x), subst (Stands (after ++ x ∷ [])) (sym q) (stands_last after x)))
          (λ n. ⊎_elim (λ o. inl o) (λ s. inr (row_more row x v s.0, stands_push after x v s.1)) (h.only v (sym (set_there new x 0 v n) ∙ e))) (cases_eq v x);
      stays = λ v s. stands_push after x v (h.stays v s);
      waits_only = λ v s. ⊎_elim
          (λ less. ⊎_elim (λ o. inl o) (λ r. inr (row_more row x v r)) (h.waits_only v (s.0, less, sym (push_old after x s.0 less) ∙ s.2)))
          (λ end. inr (subst (Stands (row ++ x ∷ [])) (sym (push_new after x s.0 end) ∙ s.2) (stands_last row x))) (push_cases after x s.0 s.1);
      count = omega (arith, h.count, sum, length_push after x);
    }

-- reaching

snoc : (g : Graph) (a b c : ℕ) → Through g a b → Reads g b c → Through g a c
snoc g a b c (itself r) s = others r (itself s)
snoc g a b c (others r t) s = others r (snoc g _ b c t s)

-- what a row has, its vertex reads
of_row : (g : Graph) (v u : ℕ) (row : Vec ℕ Global) → slice_get g v ≡ Some row → Stands row.items u → Reads g v u
of_row g v u row there s = record { row = row; there = there; at = s.0; inside = s.1; is = s.2 }

of_some : (a b : Vec ℕ Global) → Some a ≡ Some b → a ≡ b
of_some a b e = cc

pub reads_inside : (g : Graph) (a b : ℕ) → AreVertices g → Reads g a b → b < length g
reads_inside g a b all r =
    let lt = slice_get_within g a r.row r.there in
    let row : get_or g a r.row ≡ r.row = of_some _ _ (sym (slice_get-get_or g a r.row lt) ∙ r.there) in
    let here : All (λ w. w < length g) r.row.items = subst (λ x. All (λ w. w < length g) x.items) row (all a r.row lt) in
    subst (λ x. x < length g) r.is (here r.at 0 r.inside)

module _ (g : Graph) (x : ℕ) (marks waiting new after : List ℕ) (at v : ℕ) (row : Vec ℕ Global) (all : AreVertices g) (h : Reaching g x marks waiting) (last : at + 1 ≡ length waiting)
    (is : v ≡ slice_index waiting at) (there : slice_get g v ≡ Some row) (s : Spreads row.items marks (take at waiting) new after) where
  here_waits : (v < length g) × ((v ≡ x) ⊎ Through g x v)
  here_waits = h.waits v (at, omega arith, sym is)

  short : length (take at waiting) ≡ at
  short = length-take-le at waiting (omega arith)

  still : (u : ℕ) → Stands (take at waiting) u → Stands waiting u
  still u w = (w.0, omega (arith, w.1, short), sym (get_or-take at waiting w.0 0 (omega (arith, w.1, short))) ∙ w.2)

  but_last : (u : ℕ) → u ≢ v → Stands waiting u → Stands (take at waiting) u
  but_last u n w =
      let below : w.0 < at = ⊎_elim (λ l. l) (λ m. let same : w.0 ≡ at = omega (arith, w.1) in absurd (n (sym w.2 ∙ ap (λ y. slice_index waiting y) same ∙ sym is))) (cases_lt w.0 at) in
      (w.0, omega (arith, short), get_or-take at waiting w.0 0 below ∙ w.2)

  to_row : (u : ℕ) → Stands row.items u → Through g x u
  to_row u w =
      let read = of_row g v u row there w in
      ⊎_elim (λ e. itself (subst (λ y. Reads g y u) e read)) (λ t. snoc g x v u t read) here_waits.1

  pub turned : Reaching g x new after
  turned = record {
    long = s.long ∙ h.long;
    from = λ u lt e. ⊎_elim (λ o. h.from u lt o) (λ w. to_row u w.0) (s.only u e);
    waits = λ u w. ⊎_elim (λ o. h.waits u (still u o)) (λ r. (reads_inside g v u all (of_row g v u row there r), inr (to_row u r))) (s.waits_only u w);
    closed = λ u lt o. ⊎_elim
        (λ q. inr (λ w read.
        let same : read.row ≡ row = of_some read.row row (sym read.there ∙ ap (λ y. slice_get g y) q ∙ there) in
        subst (λ y. slice_index new y ≡ 0) (ap (λ r. slice_index r.items read.at) (sym same) ∙ read.is) (s.met read.at (subst (λ r. read.at < length r.items) same read.inside))))
        (λ n. let old = λ (before : (u ≡ x) ⊎ (slice_index marks u ≡ 0)).
        ⊎_elim {C = Stands after u ⊎ ((w : ℕ) → Reads g u w → slice_index new w ≡ 0)} (λ w. inl (s.stays u (but_last u n w))) (λ c. inr (λ w read. s.kept w (c w read))) (h.closed u lt before) in
        ⊎_elim (λ q. old (inl q)) (λ z. ⊎_elim (λ m. old (inr m)) (λ w. inl w.1) (s.only u z)) o)
        (cases_eq u v);
  }

-- at the end

all_met : (g : Graph) (x : ℕ) (marks waiting : List ℕ) → AreVertices g → Reaching g x marks waiting → length waiting ≡ 0 → (a y : ℕ) → a < length g → (a ≡ x) ⊎ (slice_index marks a ≡ 0)
    → Through g a y → slice_index marks y ≡ 0
all_met g x marks waiting all h none a y lt o (itself r) = ⊎_elim (λ w. absurd (omega (arith, w.1))) (λ c. c y r) (h.closed a lt o)
all_met g x marks waiting all h none a y lt o (others {b = b} r t) =
    let met : slice_index marks b ≡ 0 = ⊎_elim (λ w. absurd (omega (arith, w.1))) (λ c. c b r) (h.closed a lt o) in
    all_met g x marks waiting all h none b y (reads_inside g a b all r) (inr met) t

pub met_or_not : (g : Graph) (x : ℕ) (marks waiting : List ℕ) → AreVertices g → Reaching g x marks waiting → length waiting ≡ 0 → x < length g
    → (slice_index marks x ≡ 0 → OnLoop g x) × (OnLoop g x → slice_index marks x ≡ 0)
met_or_not g x marks waiting all h none lt = (λ e. h.from x lt e, λ t. all_met g x marks waiting all h none x x lt (inl refl) t)

rep_at : (n v : ℕ) → v < n → slice_index (replicate n 1) v ≡ 1
rep_at zero v lt = absurd (omega arith)
rep_at (suc n) zero lt = refl
rep_at (suc n) (suc v) lt = rep_at n v (omega arith)

rep_long : (n : ℕ) → length {A = ℕ} (replicate n 1) ≡ n
rep_long zero = refl
rep_long (suc n) = let rest = rep_long n in omega arith

pub reaching_first : (g : Graph) (x : ℕ) (marks waiting : List ℕ) → x < length g → marks ≡ replicate (length g) 1 → waiting ≡ x ∷ [] → Reaching g x marks waiting
reaching_first g x marks waiting lt a w =
    let mark : (v : ℕ) → v < length g → slice_index marks v ≡ 1 = λ v l. ap (λ m. slice_index m v) a ∙ rep_at (length g) v l in
    let stands : Stands waiting x = subst (λ y. Stands y x) (sym w) (0, omega arith, refl) in
    record {
      long = ap length a ∙ rep_long (length g);
      from = λ v l z. let m = mark v l in absurd (omega arith);
      waits = λ v s. let q = only_one v (subst (λ y. Stands y v) w s) in (omega arith, inl q);
      closed = λ v l o. ⊎_elim (λ q. inl (subst (Stands waiting) (sym q) stands)) (λ z. let m = mark v l in absurd (omega arith)) o;
    }
  where
    only_one : (v : ℕ) → Stands (x ∷ []) v → v ≡ x
    only_one v s = let z : s.0 ≡ 0 = omega (arith, s.1) in sym s.2 ∙ ap (λ k. slice_index (x ∷ []) k) z

-- ranks

falls : (g : Graph) (ranks : List ℕ) → NeverRises g ranks → (a b : ℕ) → Through g a b → slice_index ranks b ≤ slice_index ranks a
falls g ranks h a b (itself r) = h a b r
falls g ranks h a b (others {b = c} r t) = let first = h a c r in let rest = falls g ranks h c b t in omega arith

no_loop : (g : Graph) (ranks : List ℕ) (x : ℕ) → NeverRises g ranks → ((b : ℕ) → Reads g x b → slice_index ranks b < slice_index ranks x) → OnLoop g x → ⊥
no_loop g ranks x h below (itself r) = let lt = below x r in omega arith
no_loop g ranks x h below (others {b = c} r t) = let lt = below c r in let rest = falls g ranks h c x t in omega arith

pub ranked_off : (g : Graph) (ranks : List ℕ) (x : ℕ) (row : Vec ℕ Global) → NeverRises g ranks → slice_get g x ≡ Some row
    → ((k : ℕ) → k < length row.items → slice_index ranks (slice_index row.items k) < slice_index ranks x) → OnLoop g x → ⊥
ranked_off g ranks x row h there below = no_loop g ranks x h (λ b r.
    let same : r.row ≡ row = of_some r.row row (sym r.there ∙ there) in
    subst (λ y. slice_index ranks y < slice_index ranks x) (ap (λ z. slice_index z.items r.at) (sym same) ∙ r.is) (below r.at (subst (λ z. r.at < length z.items) same r.inside)))

pub rows_never_rise : (g : Graph) (ranks : List ℕ) → ((v : ℕ) (row : Vec ℕ Global) → slice_get g v ≡ Some row → (k : ℕ) → k < length row.items → slice_index ranks (slice_index row.items k) ≤ slice_index ranks v)
    → NeverRises g ranks
rows_never_rise g ranks h a b r = subst (λ y. slice_index ranks y ≤ slice_index ranks a) r.is (h a r.row r.there r.at r.inside)

pub loop_inside : (g : Graph) (x : ℕ) → OnLoop g x → x < length g
loop_inside g x (itself r) = slice_get_within g x r.row r.there
loop_inside g x (others r t) = slice_get_within g x r.row r.there
