-- The texts that the answer to a command line needs.
use Rattle.std.specs.Prelude.{◌≡◌, ℕ, ◌≤◌, List, length, Option, Some}
use Rattle.sim_engine.specs.Stages.{circuit_limit}
use Rattle.asked_texts.specs.declared.words.Keeping.{Keeping}
use Rattle.asked_texts.specs.Commands.{joined_limit, Job, Question, Of_joined, Of_two, Of_state, asked_by}

-- The texts that the answer to a question needs, where these texts are held, or it isn't told what is held: all that it names. The stimulus isn't
-- needed where the circuit's text is told and too long, and a state isn't where the joined text is. A circuit that is made needs none.
pub data NeedsFor (held : Option (List ℕ → Option (List ℕ))) : Question → List ℕ → Type 0 where
  the_joined : (job : Job) (name : List ℕ) → NeedsFor held (Of_joined job name) name
  the_circuit : (circuit stimulus : List ℕ) → NeedsFor held (Of_two circuit stimulus) circuit
  the_stimulus : (circuit stimulus : List ℕ)
      → ((texts : List ℕ → Option (List ℕ)) (text : List ℕ) → held ≡ Some texts → texts circuit ≡ Some text → length text ≤ circuit_limit)
      → NeedsFor held (Of_two circuit stimulus) stimulus
  the_held : (keeping : Keeping) (circuit state : List ℕ) → NeedsFor held (Of_state keeping circuit state) circuit
  the_state : (keeping : Keeping) (circuit state : List ℕ)
      → ((texts : List ℕ → Option (List ℕ)) (text : List ℕ) → held ≡ Some texts → texts circuit ≡ Some text → length text ≤ joined_limit)
      → NeedsFor held (Of_state keeping circuit state) state

-- whether the answer to a command line needs the text of this name
pub record Needs (words : List (List ℕ)) (held : Option (List ℕ → Option (List ℕ))) (name : List ℕ) : Type 0 where
  pub question : Question
  pub asked : asked_by words ≡ Some question
  pub needs : NeedsFor held question name
