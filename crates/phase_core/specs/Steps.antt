-- The eight kinds of step, each with its condition and its change, and lists of steps.
use Rattle.std.specs.Prelude.{ℕ, ◌+◌, ◌*◌, ◌%◌, Bool, true, false, if◌then◌else◌, ◌&&◌, ◌||◌, ◌==◌, nat_lt, nat_le, List, [], ◌∷◌, ◌++◌, length, slice_get, slice_index, slice_index_or, slice_set, Option, Some, None}
use Rattle.phase_core.specs.declared.model.Script.{Script}
use Rattle.phase_core.specs.declared.model.Publication.{Publication}
use Rattle.phase_core.specs.declared.model.View.{View}
use Rattle.phase_core.specs.declared.model.PhaseState.{PhaseState}
use Rattle.phase_core.specs.declared.model.Step.{Step}
use Rattle.phase_core.specs.declared.model.Step.TheVariants.{Split, Stay, Pass, Arrive, Load, Publish, Join, Close}
use Rattle.phase_core.specs.Sound.{view, part_of, Sound}

abbrev pub SoundState : Script → PhaseState → Type 0
SoundState s t = Sound s t.barrier t.words t.views

-- the live view j of a state that isn't closed
abbrev pub live_view : PhaseState → ℕ → Option View
live_view t j = if t.closed then None else slice_index_or t.views j None

-- the state with another view at j
abbrev pub put : PhaseState → ℕ → View → PhaseState
put t j w = record t { views = slice_set t.views j (Some w) }

-- the state u where the condition holds
abbrev pub when : Bool → PhaseState → Option PhaseState
when b u = if b then Some u else None

-- what `go` makes of the live view j
abbrev pub on_live : Option View → (View → Option PhaseState) → Option PhaseState
on_live None go = None
on_live (Some v) go = go v

abbrev pub on_next : Option Publication → (Publication → Option PhaseState) → Option PhaseState
on_next None go = None
on_next (Some p) go = go p

abbrev pub one_worker : View → Bool
one_worker v = v.high == v.low + 1

-- Split: a view that never arrived ends at `at`, and a new last view has the rest
abbrev pub left_part : View → ℕ → View
left_part v at = view v.low at v.arrivals v.passed v.done

abbrev pub right_part : View → ℕ → View
right_part v at = view at v.high 0 0 0

abbrev pub may_split : View → ℕ → Bool
may_split v at = v.arrivals == 0 && nat_lt v.low at && nat_lt at v.high

abbrev pub split_step : PhaseState → ℕ → ℕ → Option PhaseState
split_step t j at = on_live (live_view t j) (λ v. when (may_split v at) (record t { views = slice_set t.views j (Some (left_part v at)) ++ Some (right_part v at) ∷ [] }))

-- Stay: a view that arrived finds the barrier too small to pass
abbrev pub may_stay : Script → PhaseState → View → Bool
may_stay s t v = v.arrivals == v.passed + 1 && nat_lt t.barrier (s.workers * (v.passed + 1))

abbrev pub stay_step : Script → PhaseState → ℕ → Option PhaseState
stay_step s t j = on_live (live_view t j) (λ v. when (may_stay s t v) t)

-- Pass: it finds that all have arrived, and is in the next phase
abbrev pub after_pass : View → View
after_pass v = view v.low v.high v.arrivals (v.passed + 1) 0

abbrev pub may_pass : Script → PhaseState → View → Bool
may_pass s t v = v.arrivals == v.passed + 1 && nat_le (s.workers * (v.passed + 1)) t.barrier

abbrev pub pass_step : Script → PhaseState → ℕ → Option PhaseState
pass_step s t j = on_live (live_view t j) (λ v. when (may_pass s t v) (put t j (after_pass v)))

-- Arrive: one worker ends its phase, an odd one once all is published, and raises the barrier
abbrev pub after_arrival : View → View
after_arrival v = view v.low v.high (v.arrivals + 1) v.passed v.done

abbrev pub may_arrive : Script → View → Bool
may_arrive s v = one_worker v && v.arrivals == v.passed && nat_lt v.passed (2 * s.cycles) && (v.passed % 2 == 0 || v.done == length (part_of s v))

abbrev pub arrive_step : Script → PhaseState → ℕ → Option PhaseState
arrive_step s t j = on_live (live_view t j) (λ v. when (may_arrive s v) (record t { barrier = t.barrier + 1; views = slice_set t.views j (Some (after_arrival v)) }))

-- Load: in an even phase a word is read, and nothing changes
abbrev pub may_load : PhaseState → View → ℕ → Bool
may_load t v word = v.arrivals == v.passed && v.passed % 2 == 0 && nat_lt word (length t.words)

abbrev pub load_step : PhaseState → ℕ → ℕ → Option PhaseState
load_step t j word = on_live (live_view t j) (λ v. when (may_load t v word) t)

-- what a load of the word gives
abbrev pub loaded : PhaseState → ℕ → ℕ
loaded t word = slice_index t.words word

-- Publish: in an odd phase one worker stores its next publication
abbrev pub next_of : Script → View → Option Publication
next_of s v = slice_get (part_of s v) v.done

abbrev pub after_publication : View → View
after_publication v = view v.low v.high v.arrivals v.passed (v.done + 1)

abbrev pub may_publish : View → Bool
may_publish v = one_worker v && v.arrivals == v.passed && v.passed % 2 == 1

abbrev pub publish_step : Script → PhaseState → ℕ → Option PhaseState
publish_step s t j = on_live (live_view t j) (λ v. on_next (next_of s v) (λ p. when (may_publish v)
    (record t { words = slice_set t.words p.word p.value; views = slice_set t.views j (Some (after_publication v)) })))

-- Join: of two views behind the last phase that touch, the first takes the workers of both
abbrev pub both : View → View → View
both v u = view v.low u.high v.arrivals v.passed v.done

abbrev pub at_end : Script → View → Bool
at_end s v = v.arrivals == 2 * s.cycles && v.passed == 2 * s.cycles

abbrev pub may_join : Script → View → View → Bool
may_join s v u = at_end s v && at_end s u && v.high == u.low

abbrev pub join_step : Script → PhaseState → ℕ → ℕ → Option PhaseState
join_step s t j i = on_live (live_view t j) (λ v. on_live (live_view t i) (λ u. when (may_join s v u)
    (record t { views = slice_set (slice_set t.views j (Some (both v u))) i None })))

-- Close: a view of all workers has passed the last phase
abbrev pub may_close : Script → View → Bool
may_close s v = v.low == 0 && v.high == s.workers && v.passed == 2 * s.cycles

abbrev pub close_step : Script → PhaseState → ℕ → Option PhaseState
close_step s t j = on_live (live_view t j) (λ v. when (may_close s v) (record t { closed = true }))

-- what a step makes of a state, and none where its condition doesn't hold
abbrev pub stepped : Script → PhaseState → Step → Option PhaseState
stepped s t (Split j at) = split_step t j at
stepped s t (Stay j) = stay_step s t j
stepped s t (Pass j) = pass_step s t j
stepped s t (Arrive j) = arrive_step s t j
stepped s t (Load j word) = load_step t j word
stepped s t (Publish j) = publish_step s t j
stepped s t (Join j i) = join_step s t j i
stepped s t (Close j) = close_step s t j

-- whether the step's condition holds
abbrev pub taken : Option PhaseState → Bool
taken None = false
taken (Some u) = true

-- the state after the step, or the state as it was where its condition doesn't hold
abbrev pub or_else : Option PhaseState → PhaseState → PhaseState
or_else None t = t
or_else (Some u) t = u

-- the steps in order, but for those whose condition doesn't hold
abbrev pub run : Script → PhaseState → List Step → PhaseState
run s t [] = t
run s t (x ∷ xs) = run s (or_else (stepped s t x) t) xs

-- the state at the beginning: one view of all workers, all counts 0, the first words
abbrev pub begun : Script → PhaseState
begun s = record { barrier = 0; words = s.first; views = Some (view 0 s.workers 0 0 0) ∷ []; closed = false }
