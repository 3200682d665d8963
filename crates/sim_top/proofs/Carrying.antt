-- How a call ends that carries out what was decided.
use Rattle.std.proofs.Common.{◌≡◌, ℕ, ◌≤◌, List, ◌++◌, ◌⊎◌, ⊎_elim, inl, inr, Option, arith}
use Rattle.std.specs.Prelude.{codes, Some, None}
use Rattle.sim_top.specs.declared.judge.Decision.{Decision}
use Rattle.sim_top.specs.declared.judge.Decision.TheVariants as decision
use Rattle.sim_top.specs.Needing.{Needs}
use Rattle.sim_top.specs.Answers.{Answers}
use Rattle.sim_top.specs.Endings.{Ends, IsFaultLine, Gives, IsReady, IsCarriedOut, status_of}
use Rattle.sim_top.proofs.Replying.{reply_few, said_usage, said_line, said_answered, run_answered, written_answered, ends_said, ends_run, ends_written, unwritten, unheld_unanswered}

-- the status: what was decided, or 5 where the sink failed, or 6 where memory was wanted
abbrev pub EndsAt : ℕ → ℕ → Type 0
EndsAt status result = (result ≡ status) ⊎ (result ≡ 5) ⊎ (result ≡ 6)

pub ready_few : (d : Decision) → IsReady d → status_of d ≤ 3
ready_few (decision.Say reply) ready = reply_few _ _ ready
ready_few (decision.Run built settings watched) ready = omega arith
ready_few (decision.Dump built settings numbers) ready = omega arith
ready_few (decision.Save built settings start) ready = omega arith
ready_few (decision.Resume built settings watched start) ready = omega arith
ready_few (decision.Log built settings) ready = omega arith

pub ended_few : (status result : ℕ) → status ≤ 3 → EndsAt status result → result ≤ 6
ended_few status result few ends =
    ⊎_elim (λ same. omega (arith, few, same)) (λ more. ⊎_elim (λ five. omega (arith, five)) (λ six. omega (arith, six)) more) ends

-- no such status is that of a failing shelf
pub ended_shelf : (status result : ℕ) → status ≤ 3 → EndsAt status result → result ≡ 4 → ⊥
ended_shelf status result few ends four =
    ⊎_elim (λ same. omega (arith, few, same, four)) (λ more. ⊎_elim (λ five. omega (arith, five, four)) (λ six. omega (arith, six, four)) more) ends

pub ended_usage : (status result : ℕ) → EndsAt status result → result ≡ 1 → status ≡ 1
ended_usage status result ends one =
    ⊎_elim (λ same. omega (arith, same, one)) (λ more. ⊎_elim (λ five. absurd (omega (arith, five, one))) (λ six. absurd (omega (arith, six, one))) more) ends

pub ended_no_command : (status result : ℕ) → EndsAt status result → status ≡ 1 → EndsAt 1 result
ended_no_command status result ends one = ⊎_elim (λ same. inl (omega (arith, same, one))) (λ more. inr more) ends

-- where the sink didn't fail, all was written, or memory was wanted
pub ended_complete : (status result : ℕ) (Failed : Type 0) → status ≤ 3 → EndsAt status result → (result ≡ 5 → Failed) → (Failed → ⊥) → (result ≤ 3) ⊎ (result ≡ 6)
ended_complete status result Failed few ends rose kept =
    ⊎_elim (λ same. inl (omega (arith, few, same))) (λ more. ⊎_elim (λ five. absurd (kept (rose five))) (λ six. inr six) more) ends

-- what is written at 0 is no line of a fault, nor of the usage
no_line : (result : ℕ) → EndsAt 0 result → (result ≡ 1) ⊎ ((result ≡ 2) ⊎ (result ≡ 3)) → ⊥
no_line result ends line =
    let few : (1 ≤ result) × (result ≤ 3) =
    ⊎_elim (λ one. (omega (arith, one), omega (arith, one))) (λ more. ⊎_elim (λ two. (omega (arith, two), omega (arith, two))) (λ three. (omega (arith, three), omega (arith, three))) more) line in
    let least = few.0 in
    let most = few.1 in
    ⊎_elim (λ zero. omega (arith, least, zero)) (λ more. ⊎_elim (λ five. omega (arith, most, five)) (λ six. omega (arith, most, six)) more) ends

module _ (words : List (List ℕ)) (texts : List ℕ → Option (List ℕ)) where
  pub carried_ends : (d : Decision) (result : ℕ) (before : List ℕ) (old new : Option (List ℕ)) → Gives (Answers words texts) d → IsReady d → IsCarriedOut d result old new
      → EndsAt (status_of d) result → old ≡ Some before → Ends words texts result before new
  carried_ends (decision.Say reply) result before old new gives ready put status told =
      ends_said words texts reply.status result reply.bytes.items before old new gives (reply_few _ _ ready) put told
  carried_ends (decision.Run built settings watched) result before old new gives ready put status told =
      ends_run words texts result put.0 before old new (gives put.0 put.1) put.2 told
  carried_ends (decision.Dump built settings numbers) result before old new gives ready put status told =
      let ran = put gives.names gives.numbered in ends_run words texts result ran.0 before old new (gives.dumped ran.0 ran.1) ran.2 told
  carried_ends (decision.Save built settings start) result before old new gives ready put status told =
      ends_written words texts _ result before old new gives.written (put gives.begin gives.begins) status told
  carried_ends (decision.Resume built settings watched start) result before old new gives ready put status told =
      let ran = put gives.begin gives.begins in ends_run words texts result ran.0 before old new (gives.written ran.0 ran.1) ran.2 told
  carried_ends (decision.Log built settings) result before old new gives ready put status told =
      ends_run words texts result put.0 before old new (gives put.0 put.1) put.2 told

  pub carried_answered : (d : Decision) (result : ℕ) (old new : Option (List ℕ)) → Gives (Answers words texts) d → IsCarriedOut d result old new → EndsAt (status_of d) result
      → result ≤ 3 → (bytes : List ℕ) × Answers words texts result bytes
  carried_answered (decision.Say reply) result old new gives put status few = said_answered words texts reply.status result reply.bytes.items old new gives put few
  carried_answered (decision.Run built settings watched) result old new gives put status few = run_answered words texts result put.0 old new (gives put.0 put.1) put.2 few
  carried_answered (decision.Dump built settings numbers) result old new gives put status few =
      let ran = put gives.names gives.numbered in run_answered words texts result ran.0 old new (gives.dumped ran.0 ran.1) ran.2 few
  carried_answered (decision.Save built settings start) result old new gives put status few =
      written_answered words texts _ result old new gives.written (put gives.begin gives.begins) status few
  carried_answered (decision.Resume built settings watched start) result old new gives put status few =
      let ran = put gives.begin gives.begins in run_answered words texts result ran.0 old new (gives.written ran.0 ran.1) ran.2 few
  carried_answered (decision.Log built settings) result old new gives put status few = run_answered words texts result put.0 old new (gives put.0 put.1) put.2 few

  -- where a needed text isn't held
  pub carried_unheld : (d : Decision) (result : ℕ) (old new : Option (List ℕ)) (held : Option (List ℕ → Option (List ℕ))) (name : List ℕ) → held ≡ Some texts → Needs words held name → texts name ≡ None
      → Gives (Answers words texts) d → IsCarriedOut d result old new → EndsAt (status_of d) result → (result ≡ 4) ⊎ (result ≡ 6)
  carried_unheld d result old new held name same needs none = go d
    where
      no_answer : (status : ℕ) (bytes : List ℕ) → Answers words texts status bytes → ⊥
      no_answer status bytes answers = unheld_unanswered words texts held name status bytes same needs none answers

      go : (d : Decision) → Gives (Answers words texts) d → IsCarriedOut d result old new → EndsAt (status_of d) result → (result ≡ 4) ⊎ (result ≡ 6)
      go (decision.Say reply) gives put status = absurd (no_answer _ _ gives)
      go (decision.Run built settings watched) gives put status = absurd (no_answer 0 _ (gives put.0 put.1))
      go (decision.Dump built settings numbers) gives put status = let ran = put gives.names gives.numbered in absurd (no_answer 0 _ (gives.dumped ran.0 ran.1))
      go (decision.Save built settings start) gives put status = unwritten words texts _ result old new gives.written (put gives.begin gives.begins) status (no_answer 0)
      go (decision.Resume built settings watched start) gives put status = let ran = put gives.begin gives.begins in absurd (no_answer 0 _ (gives.written ran.0 ran.1))
      go (decision.Log built settings) gives put status = absurd (no_answer 0 _ (gives put.0 put.1))

pub carried_usage : (d : Decision) (result : ℕ) (before : List ℕ) (old new : Option (List ℕ)) → IsReady d → IsCarriedOut d result old new → EndsAt (status_of d) result → old ≡ Some before
    → result ≡ 1 → new ≡ Some (before ++ codes "usage\n")
carried_usage (decision.Say reply) result before old new ready put status told one = said_usage reply.status result reply.bytes.items before old new ready put told one
carried_usage (decision.Run built settings watched) result before old new ready put status told one = absurd (no_line result status (inl one))
carried_usage (decision.Dump built settings numbers) result before old new ready put status told one = absurd (no_line result status (inl one))
carried_usage (decision.Save built settings start) result before old new ready put status told one = absurd (no_line result status (inl one))
carried_usage (decision.Resume built settings watched start) result before old new ready put status told one = absurd (no_line result status (inl one))
carried_usage (decision.Log built settings) result before old new ready put status told one = absurd (no_line result status (inl one))

pub carried_line : (d : Decision) (result : ℕ) (before : List ℕ) (old new : Option (List ℕ)) → IsReady d → IsCarriedOut d result old new → EndsAt (status_of d) result → old ≡ Some before
    → (result ≡ 2) ⊎ (result ≡ 3) → (line : List ℕ) × IsFaultLine result line × (new ≡ Some (before ++ line))
carried_line (decision.Say reply) result before old new ready put status told fault = said_line reply.status result reply.bytes.items before old new ready put told fault
carried_line (decision.Run built settings watched) result before old new ready put status told fault = absurd (no_line result status (inr fault))
carried_line (decision.Dump built settings numbers) result before old new ready put status told fault = absurd (no_line result status (inr fault))
carried_line (decision.Save built settings start) result before old new ready put status told fault = absurd (no_line result status (inr fault))
carried_line (decision.Resume built settings watched start) result before old new ready put status told fault = absurd (no_line result status (inr fault))
carried_line (decision.Log built settings) result before old new ready put status told fault = absurd (no_line result status (inr fault))
