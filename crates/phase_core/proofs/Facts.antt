-- What Sound says of one live view as one record, and Sound put together from such records.
use Rattle.std.proofs.Common.{◌≡◌, ℕ, ◌+◌, ◌*◌, ◌/◌, ◌%◌, ◌<◌, ◌≤◌, ◌⊎◌, List, length, slice_index, Option, ⊎_elim, arith}
use Rattle.phase_core.specs.declared.model.Script.{Script}
use Rattle.phase_core.specs.declared.model.View.{View}
use Rattle.phase_core.specs.Script.{owner, publications}
use Rattle.phase_core.specs.Sound.{covers, width, weight, total, Live, shown, Sound}

pub record Shaped (s : Script) (v : View) : Type 0 where
  pub covers_some : v.low < v.high
  pub within : v.high ≤ s.workers
  pub behind : v.passed ≤ v.arrivals
  pub ahead : v.arrivals ≤ v.passed + 1
  pub last : v.arrivals ≤ 2 * s.cycles
  pub group : v.low + 1 < v.high → (v.arrivals ≡ v.passed) × ((v.passed ≡ 0) ⊎ (v.passed ≡ 2 * s.cycles))
  pub even : v.passed % 2 ≡ 0 → v.done ≡ 0
  pub odd : v.passed % 2 ≡ 1 → v.done ≤ length (publications s (v.passed / 2) v.low)
  pub all_done : v.passed % 2 ≡ 1 → v.arrivals ≡ v.passed + 1 → v.done ≡ length (publications s (v.passed / 2) v.low)

pub record Facts (s : Script) (barrier : ℕ) (words : List ℕ) (views : List (Option View)) : Type 0 where
  pub covered : (w : ℕ) → w < s.workers → total (covers w) views ≡ 1
  pub wide : total width views ≡ s.workers
  pub shaped : (j : ℕ) (v : View) → Live views j v → Shaped s v
  pub counted : barrier ≡ total weight views
  pub near : (i j : ℕ) (u v : View) → Live views i u → Live views j v → u.passed ≤ v.arrivals
  pub size : length words ≡ length s.first
  pub shows : (j i : ℕ) (v : View) → Live views j v → i < length s.first → v.low ≤ owner s i → owner s i < v.high → slice_index words i ≡ shown s v i

module _ (s : Script) where
  pub shape : (K : ℕ) (ws : List ℕ) (vs : List (Option View)) → Sound s K ws vs → (j : ℕ) (v : View) → Live vs j v → Shaped s v
  shape K ws vs o j v e = let a = o.cover.spans j v e in let b = o.counts j v e in let c = o.done_bound j v e in record {
    covers_some = a.0;
    within = a.1;
    behind = b.behind;
    ahead = b.ahead;
    last = b.last;
    group = λ h. let x = b.several h in (x.0, x.1);
    even = c.even;
    odd = c.odd;
    all_done = c.arrived;
  }

  whole_phases : (p : ℕ) → (p ≡ 0) ⊎ (p ≡ 2 * s.cycles) → p % 2 ≡ 0
  whole_phases p = ⊎_elim (λ e. omega arith) (λ e. omega arith)

  pub sound : (K : ℕ) (ws : List ℕ) (vs : List (Option View)) → Facts s K ws vs → Sound s K ws vs
  sound K ws vs f = record {
    cover = record { each = f.covered; widths = f.wide; spans = λ j v e. let x = f.shaped j v e in (x.covers_some, x.within) };
    counts = λ j v e. let x = f.shaped j v e in record {
      behind = x.behind;
      ahead = x.ahead;
      last = x.last;
      several = λ h. let g = x.group h in (g.0, g.1, x.even (whole_phases v.passed g.1));
    };
    barrier_sum = f.counted;
    none_far_ahead = f.near;
    done_bound = λ j v e. let x = f.shaped j v e in record { even = x.even; odd = x.odd; arrived = x.all_done };
    words_hold = record { size = f.size; each = f.shows };
  }
