-- What a reply is, and how a call ends that gives it.
use Rattle.std.proofs.Common.{◌≡◌, ◌≢◌, ℕ, ◌<◌, ◌≤◌, length, List, [], ◌++◌, ◌⊎◌, inl, inr, ⊎_elim, Option, take, refl, sym, ap, ◌∙◌, subst, arith}
use Rattle.std.specs.Prelude.{codes, Some, None, Result, Err, if◌then◌else◌}
use Rattle.std.proofs.lemmas.Bool.{cases_eq, le-leb, lt-leb}
use Rattle.std.proofs.lemmas.Grind.{common_steps}
use Rattle.place_text.specs.Places.{first_place}
use Rattle.fir_tree.specs.LeafNames.{Texts}
use Rattle.stimulus.specs.declared.stimulus.Stimulus.{Stimulus}
use Rattle.stimulus.specs.Stimuli.{IsFormed}
use Rattle.sim_engine.specs.Building.{IsBuilt}
use Rattle.sim_engine.specs.declared.compile.Built.{Built}
use Rattle.circuit_run.specs.NetRuns.{IsPlanned}
use Rattle.circuit_run.proofs.Writing.{nothing_written}
use Rattle.snapshot_text.specs.declared.snapshot.Snapshot.{Snapshot}
use Rattle.circuit_run.specs.Traces.{IsTraceText}
use Rattle.fir_meaning.specs.Components.{Design, design_of}
use Rattle.shelf_io.specs.Outside.{Appends, Rose}
use Rattle.circuit_make.specs.Rings.{ring_text}
use Rattle.crew_run.specs.Summaries.{IsSummary}
use Rattle.sim_engine.specs.Stages.{circuit_limit}
use Rattle.asked_texts.specs.declared.texts.WholeFault.{WholeFault}
use Rattle.asked_texts.specs.declared.texts.WholeFault.TheVariants.{TooLong, NoStimulus, WatchUnknown}
use Rattle.sim_top.specs.declared.judge.Reply.{Reply}
use Rattle.sim_top.specs.declared.judge.Decision.{Decision}
use Rattle.sim_top.specs.declared.judge.Decision.TheVariants as decision
use Rattle.asked_texts.specs.declared.words.Keeping.{Keeping}
use Rattle.asked_texts.specs.Commands.{StateText, Told as Told_text, Too_long, told, joined_limit, state_limit, Job, Run, Check, Widths, Cut, Refine, Vcd, Save, Resume, Log, job_from, Question, Of_joined, Of_two, Of_state, Of_made, asked_by}
use Rattle.sim_top.specs.Needing.{NeedsFor, the_joined, the_circuit, the_stimulus, the_held, the_state, Needs}
use Rattle.sim_top.specs.Answers.{whole_bytes, RefusesStimulus, stimulus_too_long, stimulus_faulty, Runs, stimulus_refused, written, RefusesState, state_too_long, state_faulty, RunsFrom, given_refused, state_refused, begun, JudgesTexts, refused, accepted, listed, divided, refined, ran, watch_unknown, dumped, saved, resumed, logged, Judges, joined_too_long, no_stimulus, circuit_too_long, taken, AnswersTo, of_joined, of_long_circuit, of_two, of_long_joined, of_state as of_a_state, of_made, of_made_refused, Answers, no_command, answered}
use Rattle.sim_top.specs.Endings.{Ends, IsSaid, IsRun, IsWritten, IsFaultLine, of_circuit, of_whole, of_stimulus, of_whole_stimulus, of_state, of_whole_state, IsReply, Gives, IsFor, IsReady, IsRunnable, IsDumpable, IsSavable, IsLoggable, status_of}
use Rattle.sim_top.proofs.AnswersOnce.{some_same, no_reading, answers_once}
use Rattle.sim_top.proofs.Judging.{gives_more}

-- what a command answers has the status 0, or is a line that names a fault
abbrev Told : ℕ → List ℕ → Type 0
Told status bytes = (status ≡ 0) ⊎ IsFaultLine status bytes

refusal_line : (texts : Texts) (design : Design) (stimulus b : List ℕ) → RefusesStimulus texts design stimulus b → IsFaultLine 3 b
refusal_line texts design stimulus _ (stimulus_too_long l) = of_whole_stimulus TooLong first_place
refusal_line texts design stimulus _ (stimulus_faulty ports fault place l p f at) = of_stimulus fault place

ran_told : (texts : Texts) (design : Design) (Writes : Stimulus → List ℕ → Type 0) (stimulus : List ℕ) (s : ℕ) (b : List ℕ) → Runs texts design Writes stimulus s b → Told s b
ran_told texts design Writes stimulus _ b (stimulus_refused _ r) = inr (refusal_line texts design stimulus b r)
ran_told texts design Writes stimulus _ _ (written settings bytes t w) = inl refl

state_line : (texts : Texts) (design : Design) (begin : Option StateText) (b : List ℕ) → RefusesState texts design begin b → IsFaultLine 3 b
state_line texts design _ _ state_too_long = of_whole_state TooLong first_place
state_line texts design _ _ (state_faulty state fault place f at) = of_state fault place

begun_told : (texts : Texts) (design : Design) (Writes : Option (List ℕ) → Stimulus → List ℕ → Type 0) (begin : Option StateText) (stimulus : List ℕ) (s : ℕ) (b : List ℕ)
    → RunsFrom texts design Writes begin stimulus s b → Told s b
begun_told texts design Writes begin stimulus _ b (given_refused _ r) = inr (refusal_line texts design stimulus b r)
begun_told texts design Writes begin stimulus _ b (state_refused settings _ t r) = inr (state_line texts design begin b r)
begun_told texts design Writes begin stimulus _ _ (begun settings state bytes t of w) = inl refl

texts_told : (job : Job) (text stimulus : List ℕ) (s : ℕ) (b : List ℕ) → JudgesTexts job text stimulus s b → Told s b
texts_told job text stimulus _ _ (refused _ _ _ fault p f at) = inr (of_circuit fault p)
texts_told Check text stimulus _ _ (accepted _ _ fitted a) = inl refl
texts_told Widths text stimulus _ _ (listed _ _ fitted a) = inl refl
texts_told (Cut workers) text stimulus _ _ (divided _ _ _ fitted _ a cuts) = inl refl
texts_told (Refine workers) text stimulus _ _ (refined _ _ _ fitted _ a cuts) = inl refl
texts_told Run text stimulus s b (ran _ _ fitted _ _ a r) = ran_told fitted.checked.resolved.names _ _ stimulus s b r
texts_told (Vcd names) text stimulus _ _ (watch_unknown _ _ _ fitted a none) = inr (of_whole WatchUnknown first_place)
texts_told (Vcd names) text stimulus s b (dumped _ _ _ fitted _ _ a known r) = ran_told fitted.checked.resolved.names _ _ stimulus s b r
texts_told (Save begin) text stimulus s b (saved _ _ _ fitted _ _ a r) = begun_told fitted.checked.resolved.names _ _ begin stimulus s b r
texts_told (Resume begin) text stimulus s b (resumed _ _ _ fitted _ _ a r) = begun_told fitted.checked.resolved.names _ _ (Some begin) stimulus s b r
texts_told Log text stimulus s b (logged _ _ fitted _ _ a r) = ran_told fitted.checked.resolved.names _ _ stimulus s b r

judged_told : (job : Job) (joined : List ℕ) (s : ℕ) (b : List ℕ) → Judges job joined s b → Told s b
judged_told job joined _ _ (joined_too_long _ _ l) = inr (of_whole TooLong first_place)
judged_told job joined _ _ (no_stimulus _ _ runs w n) = inr (of_whole NoStimulus first_place)
judged_told job joined _ _ (circuit_too_long _ _ text stimulus w p l) = inr (of_whole TooLong first_place)
judged_told job joined s b (taken _ _ text stimulus _ _ t j) = texts_told job text stimulus s b j

line_status : (s : ℕ) (b : List ℕ) → IsFaultLine s b → (2 ≤ s) × (s ≤ 3)
line_status _ _ (of_circuit fault p) = (omega arith, omega arith)
line_status _ _ (of_whole fault p) = (omega arith, omega arith)
line_status _ _ (of_stimulus fault p) = (omega arith, omega arith)
line_status _ _ (of_whole_stimulus fault p) = (omega arith, omega arith)
line_status _ _ (of_state fault p) = (omega arith, omega arith)
line_status _ _ (of_whole_state fault p) = (omega arith, omega arith)

pub line_usage : (s : ℕ) (b : List ℕ) → IsFaultLine s b → s ≡ 1 → ⊥
line_usage s b line one = let two = (line_status s b line).0 in omega (arith, one, two)

told_usage : (s : ℕ) (b : List ℕ) → Told s b → s ≡ 1 → ⊥
told_usage s b told one = ⊎_elim (λ zero. omega arith) (λ line. let two = (line_status s b line).0 in omega arith) told

judged_reply : (job : Job) (joined : List ℕ) (s : ℕ) (b : List ℕ) → Judges job joined s b → IsReply s b
judged_reply job joined s b j = ⊎_elim (λ zero. inl zero) (λ line. inr (inr line)) (judged_told job joined s b j)

pub reply_few : (s : ℕ) (b : List ℕ) → IsReply s b → s ≤ 3
reply_few s b reply = ⊎_elim (λ zero. omega arith)
    (λ more. ⊎_elim (λ (u : (s ≡ 1) × (b ≡ codes "usage\n")). let one = u.0 in omega arith) (λ line. (line_status s b line).1) more) reply

-- what is decided for a joined text
pub ready_decision : (job : Job) (joined : List ℕ) (d : Decision) → Gives (Judges job joined) d → IsFor job d → IsReady d
ready_decision job joined (decision.Say reply) s run = judged_reply job joined _ _ s
ready_decision job joined (decision.Run built settings watched) s run = run
ready_decision job joined (decision.Dump built settings numbers) s run = run.1
ready_decision job joined (decision.Save built settings start) s run = run.1
ready_decision job joined (decision.Resume built settings watched start) s run = run.1
ready_decision job joined (decision.Log built settings) s run = run.1

pub no_usage : (job : Job) (joined : List ℕ) (d : Decision) → Gives (Judges job joined) d → status_of d ≡ 1 → ⊥
no_usage job joined (decision.Say reply) s one = told_usage _ _ (judged_told job joined _ _ s) one
no_usage job joined (decision.Run built settings watched) s one = cc
no_usage job joined (decision.Dump built settings numbers) s one = cc
no_usage job joined (decision.Save built settings start) s one = cc
no_usage job joined (decision.Resume built settings watched start) s one = cc
no_usage job joined (decision.Log built settings) s one = cc

texts_ready : (text stimulus : List ℕ) (s : ℕ) (b : List ℕ) → JudgesTexts Run text stimulus s b → IsReply s b
texts_ready text stimulus s b j = ⊎_elim (λ zero. inl zero) (λ line. inr (inr line)) (texts_told Run text stimulus s b j)

pub ready_texts : (text stimulus : List ℕ) (d : Decision) → Gives (JudgesTexts Run text stimulus) d → IsFor Run d → IsReady d
ready_texts text stimulus (decision.Say reply) s run = texts_ready text stimulus _ _ s
ready_texts text stimulus (decision.Run built settings watched) s run = run
ready_texts text stimulus (decision.Dump built settings numbers) s run = run.1
ready_texts text stimulus (decision.Save built settings start) s run = run.1
ready_texts text stimulus (decision.Resume built settings watched start) s run = run.1
ready_texts text stimulus (decision.Log built settings) s run = run.1

pub no_usage_texts : (text stimulus : List ℕ) (d : Decision) → Gives (JudgesTexts Run text stimulus) d → status_of d ≡ 1 → ⊥
no_usage_texts text stimulus (decision.Say reply) s one = told_usage _ _ (texts_told Run text stimulus _ _ s) one
no_usage_texts text stimulus (decision.Run built settings watched) s one = cc
no_usage_texts text stimulus (decision.Dump built settings numbers) s one = cc
no_usage_texts text stimulus (decision.Save built settings start) s one = cc
no_usage_texts text stimulus (decision.Resume built settings watched start) s one = cc
no_usage_texts text stimulus (decision.Log built settings) s one = cc

pub whole_ready : (b : List ℕ) (s : ℕ) (fault : WholeFault) → s ≡ 2 → b ≡ whole_bytes fault first_place → IsReply s b
whole_ready b s fault two e = inr (inr (rw (two, e) (of_whole fault first_place)))

-- for what is asked
pub name_answers : (texts : List ℕ → Option (List ℕ)) (job : Job) (name joined : List ℕ) (d : Decision) → texts name ≡ Some joined → Gives (Judges job joined) d
    → Gives (AnswersTo texts (Of_joined job name)) d
name_answers texts job name joined d held j = gives_more (Judges job joined) (AnswersTo texts (Of_joined job name)) (λ s b. of_joined job name joined s b held) d j

pub long_answers : (texts : List ℕ → Option (List ℕ)) (job : Job) (name joined : List ℕ) (s : ℕ) (b : List ℕ) → texts name ≡ Some joined → joined_limit < length joined
    → s ≡ 2 → b ≡ whole_bytes TooLong first_place → AnswersTo texts (Of_joined job name) s b
long_answers texts job name joined s b held long two e = rw (two, e) (of_joined job name joined _ _ held (joined_too_long job joined long))

pub texts_answer : (texts : List ℕ → Option (List ℕ)) (circuit stimulus text given : List ℕ) (d : Decision) → texts circuit ≡ Some text → length text ≤ circuit_limit
    → texts stimulus ≡ Some given → Gives (JudgesTexts Run text given) d → Gives (AnswersTo texts (Of_two circuit stimulus)) d
texts_answer texts circuit stimulus text given d held short told j =
    gives_more (JudgesTexts Run text given) (AnswersTo texts (Of_two circuit stimulus)) (λ s b. of_two circuit stimulus text given s b held short told) d j

pub circuit_answers : (texts : List ℕ → Option (List ℕ)) (circuit stimulus text : List ℕ) (s : ℕ) (b : List ℕ) → texts circuit ≡ Some text → circuit_limit < length text → s ≡ 2
    → b ≡ whole_bytes TooLong first_place → AnswersTo texts (Of_two circuit stimulus) s b
circuit_answers texts circuit stimulus text s b held long two e = rw (two, e) (of_long_circuit circuit stimulus text held long)

pub state_answers : (texts : List ℕ → Option (List ℕ)) (keeping : Keeping) (circuit state joined text : List ℕ) (d : Decision) → texts circuit ≡ Some joined → length joined ≤ joined_limit
    → texts state ≡ Some text → Gives (Judges (job_from keeping (told text)) joined) d → Gives (AnswersTo texts (Of_state keeping circuit state)) d
state_answers texts keeping circuit state joined text d held short given j =
    gives_more (Judges (job_from keeping (told text)) joined) (AnswersTo texts (Of_state keeping circuit state)) (λ s b. of_a_state keeping circuit state joined text s b held short given) d j

pub long_state_answers : (texts : List ℕ → Option (List ℕ)) (keeping : Keeping) (circuit state joined : List ℕ) (s : ℕ) (b : List ℕ) → texts circuit ≡ Some joined → joined_limit < length joined
    → s ≡ 2 → b ≡ whole_bytes TooLong first_place → AnswersTo texts (Of_state keeping circuit state) s b
long_state_answers texts keeping circuit state joined s b held long two e = rw (two, e) (of_long_joined keeping circuit state joined held long)

-- what a job has of a state's text, by its length
told_whole : (text : List ℕ) → length text ≤ state_limit → told text ≡ Told_text text
told_whole text short = ap (λ b. if b then Told_text text else Too_long) (le-leb (length text) state_limit short)

told_long : (text : List ℕ) → state_limit < length text → told text ≡ Too_long
told_long text long = ap (λ b. if b then Told_text text else Too_long) (lt-leb (length text) state_limit long)

pub told_gives : (keeping : Keeping) (text joined : List ℕ) (d : Decision) → length text ≤ state_limit → Gives (Judges (job_from keeping (Told_text text)) joined) d
    → Gives (Judges (job_from keeping (told text)) joined) d
told_gives keeping text joined d short gives = subst (λ begin. Gives (Judges (job_from keeping begin) joined) d) (sym (told_whole text short)) gives

pub long_gives : (keeping : Keeping) (text joined : List ℕ) (d : Decision) → state_limit < length text → Gives (Judges (job_from keeping Too_long) joined) d
    → Gives (Judges (job_from keeping (told text)) joined) d
long_gives keeping text joined d long gives = subst (λ begin. Gives (Judges (job_from keeping begin) joined) d) (sym (told_long text long)) gives

-- what is decided for a text that is made
abbrev pub IsMade : ℕ → ℕ → Decision → Type 0
IsMade cycles size d = Gives (Judges Run (ring_text size cycles)) d × IsFor Run d

pub made_gives : (cycles size : ℕ) (joined : List ℕ) (d : Decision) → joined ≡ ring_text size cycles → Gives (Judges Run joined) d
    → Gives (Judges Run (ring_text size cycles)) d
made_gives cycles size joined d e gives = subst (λ (text : List ℕ). Gives (Judges Run text) d) e gives

pub made_said : (texts : List ℕ → Option (List ℕ)) (cycles size : ℕ) (d : Decision) (reply : Reply) → d ≡ decision.Say reply → IsMade cycles size d
    → AnswersTo texts (Of_made cycles size) reply.status reply.bytes.items
made_said texts cycles size d reply e made =
    let said = subst (IsMade cycles size) e made in of_made_refused cycles size _ _ said.0 (said.1 refl)

pub made_reply : (cycles size : ℕ) (d : Decision) (reply : Reply) → d ≡ decision.Say reply → IsMade cycles size d → IsReply reply.status reply.bytes.items
made_reply cycles size d reply e made =
    let said = subst (IsMade cycles size) e made in judged_reply Run (ring_text size cycles) _ _ said.0

pub made_usage : (cycles size : ℕ) (d : Decision) (reply : Reply) → d ≡ decision.Say reply → IsMade cycles size d → reply.status ≢ 1
made_usage cycles size d reply e made one =
    let said = subst (IsMade cycles size) e made in told_usage _ _ (judged_told Run (ring_text size cycles) _ _ said.0) one

pub made_run : (texts : List ℕ → Option (List ℕ)) (cycles size : ℕ) (d : Decision) (built : Built) (settings : Stimulus) (watched trace b : List ℕ) (s : ℕ) → d ≡ decision.Run built settings watched
    → IsMade cycles size d → s ≡ 0 → IsTraceText built.fitted.checked.resolved.names (design_of built.fitted) settings trace → IsSummary trace b
    → AnswersTo texts (Of_made cycles size) s b
made_run texts cycles size d built settings watched trace b s e made zero told sums =
    let ran = subst (IsMade cycles size) e made in
    subst (λ (k : ℕ). AnswersTo texts (Of_made cycles size) k b) (sym zero) (of_made cycles size trace b (ran.0 trace told) sums)

-- and for words
pub usage_answers : (words : List (List ℕ)) (texts : List ℕ → Option (List ℕ)) (b : List ℕ) → asked_by words ≡ None → b ≡ codes "usage\n" → Answers words texts 1 b
usage_answers words texts b none e = rw e (no_command words texts none)

pub words_answer : (words : List (List ℕ)) (texts : List ℕ → Option (List ℕ)) (question : Question) (d : Decision) → asked_by words ≡ Some question
    → Gives (AnswersTo texts question) d → Gives (Answers words texts) d
words_answer words texts question d asked a = gives_more (AnswersTo texts question) (Answers words texts) (λ s b. answered words texts question s b asked) d a

-- what was appended
appended : (old new : Option (List ℕ)) (before xs : List ℕ) → old ≡ Some before → Appends old new xs → new ≡ Some (before ++ xs)
appended old new before xs told a = rw (a, told) refl

-- the reply was written, or a prefix of it
pub ends_said : (words : List (List ℕ)) (texts : List ℕ → Option (List ℕ)) (status result : ℕ) (bytes before : List ℕ) (old new : Option (List ℕ))
    → Answers words texts status bytes → status ≤ 3 → IsSaid result status bytes old new → old ≡ Some before → Ends words texts result before new
ends_said words texts status result bytes before old new answers few said told =
    let same : result ≢ 5 → result ≡ status = λ n. (said.all n).0 in
    record {
      answered = λ le. let n : result ≢ 5 = omega arith in (bytes, rw (same n) answers, appended old new before bytes told (said.all n).1);
      only = λ le other others a. let n : result ≢ 5 = omega arith in let o = answers_once words texts status other bytes others answers a in
          (sym o.0 ∙ sym (same n), appended old new before bytes told (said.all n).1 ∙ ap (λ xs. Some (before ++ xs)) o.1);
      shelf_faulted = λ e. let n : result ≢ 5 = omega arith in let s = same n in absurd (omega arith);
      sink_faulted = λ e. let p = said.part e in (status, bytes, p.0, answers, appended old new before _ told p.1);
      memory_wanted = λ e. let n : result ≢ 5 = omega arith in let s = same n in absurd (omega arith);
      within = ⊎_elim (λ five. omega arith) (λ n. let s = same n in omega arith) (cases_eq result 5);
    }

-- how writing a text ends
abbrev pub IsWritingStatus : ℕ → Type 0
IsWritingStatus result = (result ≡ 0) ⊎ (result ≡ 5) ⊎ (result ≡ 6)

written_whole : (result : ℕ) → IsWritingStatus result → result ≤ 3 → result ≡ 0
written_whole result status few = ⊎_elim (λ z. z) (λ more. ⊎_elim (λ five. absurd (omega (arith, few, five))) (λ six. absurd (omega (arith, few, six))) more) status

-- the trace was written, or a prefix of it
pub ends_run : (words : List (List ℕ)) (texts : List ℕ → Option (List ℕ)) (result : ℕ) (bytes before : List ℕ) (old new : Option (List ℕ))
    → Answers words texts 0 bytes → IsRun result bytes old new → old ≡ Some before → Ends words texts result before new
ends_run words texts result bytes before old new answers run told = record {
  answered = λ le. let z = zero le in (bytes, rw z answers, appended old new before bytes told (run.all z));
  only = λ le other others a. let z = zero le in let o = answers_once words texts 0 other bytes others answers a in
      (sym o.0 ∙ sym z, appended old new before bytes told (run.all z) ∙ ap (λ xs. Some (before ++ xs)) o.1);
  shelf_faulted = λ e. absurd (⊎_elim (λ z. omega (arith, e, z)) (λ more. ⊎_elim (λ five. omega (arith, e, five)) (λ six. omega (arith, e, six)) more) run.status);
  sink_faulted = λ e. let n : result ≢ 0 = omega (arith, e) in let p = run.part n in (0, bytes, p.0, answers, appended old new before _ told p.1);
  memory_wanted = λ e. let n : result ≢ 0 = omega (arith, e) in let p = run.part n in (
    p.0,
    take p.0 bytes,
    appended old new before _ told p.1,
    (λ code others a. ap (take p.0) (answers_once words texts 0 code bytes others answers a).1),
    (λ none. absurd (none 0 bytes answers)),
  );
  within = ⊎_elim (λ z. omega (arith, z)) (λ more. ⊎_elim (λ five. omega (arith, five)) (λ six. omega (arith, six)) more) run.status;
}
  where
    zero : result ≤ 3 → result ≡ 0
    zero le = ⊎_elim (λ z. z) (λ more. ⊎_elim (λ five. absurd (omega (arith, le, five))) (λ six. absurd (omega (arith, le, six))) more) run.status

-- the text of a state was written, or a prefix of it, or nothing
pub ends_written : (words : List (List ℕ)) (texts : List ℕ → Option (List ℕ)) (IsText : List ℕ → Type 0) (result : ℕ) (before : List ℕ) (old new : Option (List ℕ))
    → ((bytes : List ℕ) → IsText bytes → Answers words texts 0 bytes) → IsWritten IsText result old new → IsWritingStatus result → old ≡ Some before → Ends words texts result before new
ends_written words texts IsText result before old new answers put status told_before = record {
  answered = λ le. let z = written_whole result status le in let p = put.all z in (p.0, subst (λ x. Answers words texts x p.0) (sym z) (answers p.0 p.1), appended old new before p.0 told_before p.2);
  only = λ le other others a. let z = written_whole result status le in let p = put.all z in let o = answers_once words texts 0 other p.0 others (answers p.0 p.1) a in
      (sym o.0 ∙ sym z, appended old new before p.0 told_before p.2 ∙ ap (λ xs. Some (before ++ xs)) o.1);
  shelf_faulted = λ e. absurd (⊎_elim (λ z. omega (arith, e, z)) (λ more. ⊎_elim (λ five. omega (arith, e, five)) (λ six. omega (arith, e, six)) more) status);
  sink_faulted = λ e. let p = put.part e in (0, p.0, p.2, answers p.0 p.1, appended old new before _ told_before p.3);
  memory_wanted = λ e. (0, [], appended old new before [] told_before (put.nothing e), (λ code bytes a. refl), λ none. refl);
  within = ⊎_elim (λ z. omega (arith, z)) (λ more. ⊎_elim (λ five. omega (arith, five)) (λ six. omega (arith, six)) more) status;
}

pub written_answered : (words : List (List ℕ)) (texts : List ℕ → Option (List ℕ)) (IsText : List ℕ → Type 0) (result : ℕ) (old new : Option (List ℕ))
    → ((bytes : List ℕ) → IsText bytes → Answers words texts 0 bytes) → IsWritten IsText result old new → IsWritingStatus result → result ≤ 3 → (others : List ℕ) × Answers words texts result others
written_answered words texts IsText result old new answers put status few =
    let z = written_whole result status few in let p = put.all z in (p.0, subst (λ x. Answers words texts x p.0) (sym z) (answers p.0 p.1))

-- where there is no answer memory was wanted
pub unwritten : (words : List (List ℕ)) (texts : List ℕ → Option (List ℕ)) (IsText : List ℕ → Type 0) (result : ℕ) (old new : Option (List ℕ))
    → ((bytes : List ℕ) → IsText bytes → Answers words texts 0 bytes) → IsWritten IsText result old new → IsWritingStatus result → ((bytes : List ℕ) → Answers words texts 0 bytes → ⊥)
    → (result ≡ 4) ⊎ (result ≡ 6)
unwritten words texts IsText result old new answers put status none = ⊎_elim
    (λ z. let p = put.all z in absurd (none p.0 (answers p.0 p.1)))
    (λ more. ⊎_elim (λ five. let p = put.part five in absurd (none p.0 (answers p.0 p.1))) (λ six. inr six) more) status

usage_bytes : (s : ℕ) (b : List ℕ) → IsReply s b → s ≡ 1 → b ≡ codes "usage\n"
usage_bytes s b reply one = ⊎_elim (λ zero. absurd (omega arith))
    (λ more. ⊎_elim (λ (u : (s ≡ 1) × (b ≡ codes "usage\n")). u.1) (λ line. let two = (line_status s b line).0 in absurd (omega arith)) more) reply

pub said_usage : (status result : ℕ) (bytes before : List ℕ) (old new : Option (List ℕ)) → IsReply status bytes → IsSaid result status bytes old new → old ≡ Some before → result ≡ 1
    → new ≡ Some (before ++ codes "usage\n")
said_usage status result bytes before old new reply said told one =
    let n : result ≢ 5 = omega arith in
    let s = (said.all n).0 in
    appended old new before bytes told (said.all n).1 ∙ ap (λ xs. Some (before ++ xs)) (usage_bytes status bytes reply (omega arith))

fault_bytes_line : (s : ℕ) (b : List ℕ) → IsReply s b → (s ≡ 2) ⊎ (s ≡ 3) → IsFaultLine s b
fault_bytes_line s b reply fault = ⊎_elim (λ zero. absurd (none zero fault))
    (λ more. ⊎_elim (λ (u : (s ≡ 1) × (b ≡ codes "usage\n")). absurd (one u.0 fault)) (λ line. line) more) reply
  where
    none : s ≡ 0 → (s ≡ 2) ⊎ (s ≡ 3) → ⊥
    none zero f = ⊎_elim (λ two. omega arith) (λ three. omega arith) f

    one : s ≡ 1 → (s ≡ 2) ⊎ (s ≡ 3) → ⊥
    one e f = ⊎_elim (λ two. omega arith) (λ three. omega arith) f

not_five : (result : ℕ) → (result ≡ 2) ⊎ (result ≡ 3) → result ≢ 5
not_five result f = ⊎_elim (λ two. λ five. omega arith) (λ three. λ five. omega arith) f

pub said_line : (status result : ℕ) (bytes before : List ℕ) (old new : Option (List ℕ)) → IsReply status bytes → IsSaid result status bytes old new → old ≡ Some before
    → (result ≡ 2) ⊎ (result ≡ 3) → (line : List ℕ) × IsFaultLine result line × (new ≡ Some (before ++ line))
said_line status result bytes before old new reply said told fault =
    let n = not_five result fault in
    let s = (said.all n).0 in
    (bytes, subst (λ x. IsFaultLine x bytes) (sym s) (fault_bytes_line status bytes reply (subst (λ x. (x ≡ 2) ⊎ (x ≡ 3)) s fault)), appended old new before bytes told (said.all n).1)

pub said_answered : (words : List (List ℕ)) (texts : List ℕ → Option (List ℕ)) (status result : ℕ) (bytes : List ℕ) (old new : Option (List ℕ)) → Answers words texts status bytes
    → IsSaid result status bytes old new → result ≤ 3 → (others : List ℕ) × Answers words texts result others
said_answered words texts status result bytes old new answers said few =
    let n : result ≢ 5 = omega arith in (bytes, subst (λ x. Answers words texts x bytes) (sym (said.all n).0) answers)

pub run_answered : (words : List (List ℕ)) (texts : List ℕ → Option (List ℕ)) (result : ℕ) (bytes : List ℕ) (old new : Option (List ℕ)) → Answers words texts 0 bytes
    → IsRun result bytes old new → result ≤ 3 → (others : List ℕ) × Answers words texts result others
run_answered words texts result bytes old new answers run few = (bytes, subst (λ x. Answers words texts x bytes) (sym zero) answers)
  where
    zero : result ≡ 0
    zero = ⊎_elim (λ z. z) (λ more. ⊎_elim (λ five. absurd (omega (arith, few, five))) (λ six. absurd (omega (arith, few, six))) more) run.status

-- nothing was written
nothing : (new : Option (List ℕ)) (before : List ℕ) → new ≡ Some before → new ≡ Some (before ++ [])
nothing new before e = e ∙ ap Some (grind (arith, common_steps))

pub ends_wanting : (words : List (List ℕ)) (texts : List ℕ → Option (List ℕ)) (before : List ℕ) (new : Option (List ℕ)) → new ≡ Some before → Ends words texts 6 before new
ends_wanting words texts before new e = record {
  answered = λ le. absurd (omega (arith, le));
  only = λ le. absurd (omega (arith, le));
  shelf_faulted = λ f. absurd (omega (arith, f));
  sink_faulted = λ f. absurd (omega (arith, f));
  memory_wanted = λ _. (0, [], nothing new before e, (λ code bytes a. refl), λ none. refl);
  within = omega arith;
}

-- where the text isn't held there is no answer
unheld_asked : (texts : List ℕ → Option (List ℕ)) (held : Option (List ℕ → Option (List ℕ))) (question : Question) (name : List ℕ) (s : ℕ) (b : List ℕ) → held ≡ Some texts
    → NeedsFor held question name → texts name ≡ None → AnswersTo texts question s b → ⊥
unheld_asked texts held (Of_joined job name) _ s b told (the_joined _ _) none (of_joined _ _ joined _ _ h j) = let f : None ≡ Some joined = sym none ∙ h in cc
unheld_asked texts held (Of_two circuit stimulus) _ _ _ told (the_circuit _ _) none (of_long_circuit _ _ text h l) = let f : None ≡ Some text = sym none ∙ h in cc
unheld_asked texts held (Of_two circuit stimulus) _ s b told (the_circuit _ _) none (of_two _ _ text given _ _ h l g j) = let f : None ≡ Some text = sym none ∙ h in cc
unheld_asked texts held (Of_two circuit stimulus) _ _ _ told (the_stimulus _ _ short) none (of_long_circuit _ _ text h l) =
    let le = short texts text told h in omega (arith, l, le)
unheld_asked texts held (Of_two circuit stimulus) _ s b told (the_stimulus _ _ short) none (of_two _ _ text given _ _ h l g j) = let f : None ≡ Some given = sym none ∙ g in cc
unheld_asked texts held (Of_state keeping circuit state) _ _ _ same (the_held _ _ _) none (of_long_joined _ _ _ joined h l) = let f : None ≡ Some joined = sym none ∙ h in cc
unheld_asked texts held (Of_state keeping circuit state) _ s b same (the_held _ _ _) none (of_a_state _ _ _ joined text _ _ h l g j) = let f : None ≡ Some joined = sym none ∙ h in cc
unheld_asked texts held (Of_state keeping circuit state) _ _ _ same (the_state _ _ _ short) none (of_long_joined _ _ _ joined h l) =
    let le = short texts joined same h in omega (arith, l, le)
unheld_asked texts held (Of_state keeping circuit state) _ s b same (the_state _ _ _ short) none (of_a_state _ _ _ joined text _ _ h l g j) = let f : None ≡ Some text = sym none ∙ g in cc
unheld_asked texts held (Of_made cycles size) name s b told needs none answers = elim needs [ ]

pub unheld_unanswered : (words : List (List ℕ)) (texts : List ℕ → Option (List ℕ)) (held : Option (List ℕ → Option (List ℕ))) (name : List ℕ) (s : ℕ) (b : List ℕ) → held ≡ Some texts
    → Needs words held name → texts name ≡ None → Answers words texts s b → ⊥
unheld_unanswered words texts held name _ _ told needs none (no_command _ _ e) = no_reading words needs.question e needs.asked
unheld_unanswered words texts held name s b told needs none (answered _ _ question _ _ e a) =
    unheld_asked texts held question name s b told (subst (λ q. NeedsFor held q name) (some_same needs.question question (sym needs.asked ∙ e)) needs.needs) none a

-- a count that rose behind another call rose
pub rose_behind : (old between new : ℕ) → old ≤ between → Rose between new → Rose old new
rose_behind old between new le rose = ⊎_elim (λ lt. inl (omega (arith, le, lt))) (λ last. inr last) rose

-- how a run ended
pub run_whole : (bytes : List ℕ) (old new : Option (List ℕ)) → Appends old new bytes → IsRun 0 bytes old new
run_whole bytes old new a = record { status = inl refl; all = λ zero. a; part = λ n. absurd (n refl) }

pub run_cut : (result : ℕ) (bytes : List ℕ) (old new : Option (List ℕ)) → (result ≡ 5) ⊎ (result ≡ 6) → (n : ℕ) × Appends old new (take n bytes) → IsRun result bytes old new
run_cut result bytes old new status part = record {
  status = inr status;
  all = λ zero. absurd (⊎_elim (λ five. omega (arith, zero, five)) (λ six. omega (arith, zero, six)) status);
  part = λ n. part;
}

-- what was built can be run under a stimulus that was read for it
built_planned : (text : List ℕ) (built : Built) (stimulus : Stimulus) → IsBuilt text built → IsFormed built.ports stimulus → IsPlanned built.ordered built.ports stimulus
built_planned text built stimulus b formed = record { net = b.ordered.serves.of.well_formed; order = b.ordered.sequence; fed = b.inputs; seen = b.watched; formed = formed }

pub planned : (built : Built) (stimulus : Stimulus) (watched : List ℕ) → IsRunnable built stimulus watched → IsPlanned built.ordered built.ports stimulus
planned built stimulus watched runnable = built_planned runnable.text built stimulus runnable.is_built runnable.formed

pub dump_planned : (built : Built) (stimulus : Stimulus) (numbers : List ℕ) → IsDumpable built stimulus numbers → IsPlanned built.ordered built.ports stimulus
dump_planned built stimulus numbers dumpable = built_planned dumpable.text built stimulus dumpable.is_built dumpable.formed

pub save_planned : (built : Built) (stimulus : Stimulus) (start : Snapshot) → IsSavable built stimulus start → IsPlanned built.ordered built.ports stimulus
save_planned built stimulus start savable = built_planned savable.text built stimulus savable.is_built savable.formed

pub log_planned : (built : Built) (stimulus : Stimulus) → IsLoggable built stimulus → IsPlanned built.ordered built.ports stimulus
log_planned built stimulus loggable = built_planned loggable.text built stimulus loggable.is_built loggable.formed

-- how the text of a state was written
pub written_said : (IsText : List ℕ → Type 0) (result : ℕ) (bytes : List ℕ) (old new : Option (List ℕ)) → IsText bytes → IsSaid result 0 bytes old new → IsWritten IsText result old new
written_said IsText result bytes old new is said = record {
  all = λ zero. let n : result ≢ 5 = omega (arith, zero) in (bytes, is, (said.all n).1);
  part = λ five. let p = said.part five in (bytes, is, p.0, p.1);
  nothing = λ six. let n : result ≢ 5 = omega (arith, six) in let z = (said.all n).0 in absurd (omega (arith, six, z));
}

pub written_none : (IsText : List ℕ → Type 0) (old : Option (List ℕ)) → IsWritten IsText 6 old old
written_none IsText old = record { all = λ zero. absurd (omega (arith, zero)); part = λ five. absurd (omega (arith, five)); nothing = λ six. nothing_written old }

pub said_status : (status result : ℕ) (bytes : List ℕ) (old new : Option (List ℕ)) → IsSaid result status bytes old new → (result ≡ status) ⊎ (result ≡ 5) ⊎ (result ≡ 6)
said_status status result bytes old new said = ⊎_elim (λ five. inr (inl five)) (λ n. inl (said.all n).0) (cases_eq result 5)

-- where it failed, its count rose
pub said_rose : (status result : ℕ) (Failed : Type 0) → status ≤ 3 → (result ≢ status → Failed) → result ≡ 5 → Failed
said_rose status result Failed few rose five = rose (λ same. omega (arith, few, same, five))

pub err_same : {A E : Type 0} (x y : E) → ◌≡◌ {A = Result A E} (Err x) (Err y) → x ≡ y
err_same x y e = cc e
