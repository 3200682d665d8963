-- A script as plain data: what each worker publishes in each cycle, and the values of the words at the beginning of each cycle.
use Rattle.std.specs.Prelude.{◌≡◌, ℕ, zero, suc, ◌*◌, ◌^◌, ◌<◌, ◌≤◌, List, [], ◌∷◌, length, slice_index, slice_index_or, slice_set}
use mathlib.Core.Option.{some}
use lib.ListN.{get_elem?}
use Rattle.phase_core.specs.declared.model.Script.{Script}
use Rattle.phase_core.specs.declared.model.Publication.{Publication}

-- what the workers publish in the cycle c, a list for each worker
abbrev pub round_of : Script → ℕ → List (List Publication)
round_of s c = slice_index_or s.rounds c []

-- what the worker w publishes in the cycle c, in order
abbrev pub publications : Script → ℕ → ℕ → List Publication
publications s c w = slice_index_or (round_of s c) w []

-- the worker that owns the word i
abbrev pub owner : Script → ℕ → ℕ
owner s i = slice_index s.owners i

-- the words once these publications are stored, in order
abbrev pub published : List Publication → List ℕ → List ℕ
published [] ws = ws
published (p ∷ ps) ws = published ps (slice_set ws p.word p.value)

-- the same for one worker after another
abbrev pub published_all : List (List Publication) → List ℕ → List ℕ
published_all [] ws = ws
published_all (r ∷ rs) ws = published_all rs (published r ws)

-- V(c): the words at the beginning of the cycle c
abbrev pub values : Script → ℕ → List ℕ
values s zero = s.first
values s (suc c) = published_all (round_of s c) (values s c)

-- each of these publications is of a word that is there and that the worker w owns
abbrev pub OwnedBy : Script → ℕ → List Publication → Type 0
OwnedBy s w ps = (k : ℕ) (p : Publication) → get_elem? ps k ≡ some p → (p.word < length s.first) × (owner s p.word ≡ w)

-- a part of the worker w: of words that it owns, and less than 2 ^ 64 publications, as in every list in memory
pub record IsPart (s : Script) (w : ℕ) (ps : List Publication) : Type 0 where
  pub own : OwnedBy s w ps
  pub counted : length ps < 2 ^ 64

-- a part for each worker
abbrev pub OwnRound : Script → List (List Publication) → Type 0
OwnRound s r = (w : ℕ) → IsPart s w (slice_index_or r w [])

-- each cycle has a part for each worker
abbrev pub OwnRounds : Script → Type 0
OwnRounds s = (c : ℕ) → c < length s.rounds → (length (round_of s c) ≡ s.workers) × OwnRound s (round_of s c)

-- each owner is a worker
abbrev pub HasOwners : Script → Type 0
HasOwners s = (i : ℕ) → i < length s.owners → owner s i < s.workers

-- the shape of a script
pub record IsScript (s : Script) : Type 0 where
  pub workers : 1 ≤ s.workers
  pub fits : 2 * s.cycles * s.workers < 2 ^ 64
  pub owned : length s.owners ≡ length s.first
  pub owners : HasOwners s
  pub rounds : length s.rounds ≡ s.cycles
  pub own : OwnRounds s
