-- The greatest of numbers, and how many assignments are live at most.
use Rattle.std.proofs.Common.{◌≡◌, ℕ, zero, suc, ◌+◌, ◌*◌, ◌<◌, ◌≤◌, List, [], ◌∷◌, ◌++◌, flat_map, filter, map, length, take, drop, get_or, Contains, refl, sym, ap, ap₂, ◌∙◌, arith, ⊎_elim, length-append, take_at, drop_at}
use Rattle.std.specs.List.{range_with_len}
use Rattle.ground_net.specs.declared.net.Net.{Net}
use Rattle.ground_net.specs.declared.net.CutPart.{CutPart}
use Rattle.ground_net.specs.Reads.{direct_reads}
use Rattle.flat_code.specs.Fine.{among}
use Rattle.cone_cutter.proofs.Lists.{none_in, cons_cases}
use Rattle.part_compile.specs.SlotBounds.{greatest, sinks_read, live_behind, most_assignments, frame_bound}

pub in_greatest : (ns : List ℕ) (n : ℕ) → Contains ns n → n ≤ greatest ns
in_greatest [] n c = absurd (none_in n c)
in_greatest (m ∷ ns) n c = ⊎_elim (λ e. omega (arith, e)) (λ d. let rest = in_greatest ns n d in omega (arith, rest)) (cons_cases m ns n c)

pub greatest_within : (xs ys : List ℕ) → ((y : ℕ) → Contains xs y → Contains ys y) → greatest xs ≤ greatest ys
greatest_within [] ys sub = omega arith
greatest_within (x ∷ xs) ys sub =
    let here = in_greatest ys x (sub x (0, omega arith, refl)) in
    let rest = greatest_within xs ys (λ y c. sub y (let lt = c.1 in (suc c.0, omega (arith, lt), c.2))) in
    omega (arith, here, rest)

pub mapped_greatest : {X : Type 0} (f : X → ℕ) (xs : List X) (k : ℕ) (d : X) → k < length xs → f (get_or xs k d) ≤ greatest (map f xs)
mapped_greatest f [] k d lt = absurd (omega arith)
mapped_greatest f (x ∷ xs) zero d lt = omega arith
mapped_greatest f (x ∷ xs) (suc k) d lt = let rest = mapped_greatest f xs k d (omega (arith, lt)) in omega (arith, rest)

at_greatest : (f : ℕ → ℕ) (n from k : ℕ) → k < n → f (from + k) ≤ greatest (map f (range_with_len from n))
at_greatest f zero from k lt = absurd (omega (arith, lt))
at_greatest f (suc n) from zero lt = let same : f (from + 0) ≡ f from = ap f (omega arith) in omega (arith, same)
at_greatest f (suc n) from (suc k) lt =
    let rest = at_greatest f n (from + 1) k (omega (arith, lt)) in
    let same : f (from + suc k) ≡ f (from + 1 + k) = ap f (omega arith) in
    omega (arith, rest, same)

module _ (net : Net) (watch : List ℕ) (part : CutPart) where
  abbrev live_in : List ℕ → List ℕ → ℕ
  live_in done rest = length (filter (among (sinks_read net watch part ++ flat_map (direct_reads net) rest)) done)

  live_at : (k : ℕ) (done rest : List ℕ) → length done ≡ suc k → done ++ rest ≡ part.assignments → live_in done rest ≡ length (live_behind net watch part k)
  live_at k done rest long all = ap₂ live_in
      (sym (take_at done rest (suc k) long) ∙ ap (take (suc k)) all)
      (sym (drop_at done rest (suc k) long) ∙ ap (drop (suc k)) all)

  -- Where some assignments are done, no more of them are live than behind some position.
  pub few_live : (done rest : List ℕ) → done ++ rest ≡ part.assignments → live_in done rest ≤ most_assignments net watch part
  few_live [] rest all = omega arith
  few_live (x ∷ done) rest all =
      let same = live_at (length done) (x ∷ done) rest refl all in
      let split = length-append (x ∷ done) rest in
      let long = ap length all in
      let here = at_greatest (λ k. length (live_behind net watch part k)) (length part.assignments) 0 (length done) (omega (arith, split, long)) in
      let there : length (live_behind net watch part (0 + length done)) ≡ length (live_behind net watch part (length done)) = ap (λ k. length (live_behind net watch part k)) (omega arith) in
      omega (arith, same, here, there)

  -- So two slots for each of them are in the bound.
  pub live_room : (done rest : List ℕ) → done ++ rest ≡ part.assignments → 2 * live_in done rest ≤ frame_bound net watch part
  live_room done rest all = let few = few_live done rest all in omega (arith, few)
