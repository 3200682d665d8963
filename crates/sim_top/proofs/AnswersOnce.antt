-- Words and texts have at most one answer.
use Rattle.std.proofs.Common.{◌≡◌, ◌≢◌, ℕ, ◌<◌, ◌≤◌, Bool, List, [], ◌++◌, length, refl, sym, ap, ap₂, ◌∙◌, subst, arith}
use Rattle.std.specs.Prelude.{Option, Some, None}
use Rattle.std.specs.List.{flat_map, enumerate_from}
use Rattle.place_text.specs.declared.place.Place.{Place}
use Rattle.place_text.specs.First.{IsFirst}
use Rattle.place_text.proofs.Ordering.{one_first}
use Rattle.fir_tree.specs.LeafNames.{Texts}
use Rattle.fir_types.specs.declared.fir_type.FirType.{FirType}
use Rattle.fir_tree.specs.declared.circuit.Circuit.{Circuit}
use Rattle.fir_tree.specs.declared.scope.Fitted.{Fitted}
use Rattle.fir_meaning.specs.Components.{Design, design_of}
use Rattle.fir_meaning.specs.States.{State, first_state}
use Rattle.ground_net.specs.declared.net.Ports.{Ports}
use Rattle.stimulus.specs.declared.stimulus.Stimulus.{Stimulus}
use Rattle.stimulus.specs.declared.fault.StimFault.{StimFault}
use Rattle.stimulus.specs.Faults.{IsFault, place_of, rank_of}
use Rattle.stimulus.specs.Ranks.{one_each}
use Rattle.stimulus.specs.Stimuli.{IsStimulus}
use Rattle.stimulus.proofs.Once.{stimulus_once}
use Rattle.circuit_run.specs.Traces.{watched_names, all_inputs, line_of, IsTraceText}
use Rattle.circuit_run.proofs.Once.{ports_once}
use Rattle.settling_laws.proofs.Traces.{one_trace as rows_once}
use Rattle.trace_print.specs.Trace.{header_of}
use Rattle.trace_print.specs.Listing.{listing_of}
use Rattle.crew_run.specs.Summaries.{IsSummary}
use Rattle.crew_run.proofs.Lines.{summary_once}
use Rattle.circuit_make.specs.Rings.{ring_text}
use Rattle.cut_listing.specs.CircuitCuts.{IsCutText}
use Rattle.cut_listing.proofs.Accepted.{one_cut}
use Rattle.cut_listing.specs.RefinedTexts.{IsRefinedText}
use Rattle.cut_listing.proofs.RefinedOnce.{one_refined_text}
use Rattle.circuit_texts.specs.Variables.{NamesNoLeaf}
use Rattle.circuit_texts.specs.VcdTexts.{IsVcdText}
use Rattle.circuit_texts.proofs.DumpsOnce.{one_dump}
use Rattle.width_fit.specs.Fitting.{IsFittedCircuit}
use Rattle.snapshot_text.specs.declared.fault.StateFault.{StateFault}
use Rattle.snapshot_text.specs.declared.snapshot.Snapshot.{Snapshot}
use Rattle.snapshot_text.specs.Faults.{place_of as place_in_state}
use Rattle.print_stop.specs.Logs.{IsLogOf}
use Rattle.circuit_texts.proofs.LogsOnce.{one_log}
use Rattle.circuit_texts.specs.Held.{IsFirstStateFault, Begins, from_text}
use Rattle.circuit_texts.specs.StateTexts.{IsResumedText, IsSavedText}
use Rattle.circuit_texts.proofs.Sound.{IsSound, well_formed_is_sound}
use Rattle.circuit_texts.proofs.Once.{fault_once, resumed_once, saved_once}
use Rattle.circuit_texts.proofs.Faultless.{no_fault as no_state_fault}
use Rattle.sim_engine.specs.Stages.{circuit_limit, IsAccepted}
use Rattle.sim_engine.specs.Faults.{fault_place}
use Rattle.sim_engine.specs.declared.fault.CircuitFault.{CircuitFault}
use Rattle.sim_engine.proofs.Accepting.{fitted_well_formed}
use Rattle.sim_engine.proofs.Once.{one_fault, no_fault, accepted_once}
use Rattle.sim_engine.proofs.Solving.{same_at, same_declared, same_modules, flagged}
use Rattle.asked_texts.specs.Commands.{StateText, Told, Too_long, told, joined_limit, Job, Run, Check, Widths, Cut, Refine, Vcd, Save, Resume, Log, job_from, Question, Of_joined, Of_two, Of_state, Of_made, asked_by}
use Rattle.asked_texts.specs.Texts.{IsPart, stimulus_limit}
use Rattle.sim_top.specs.Answers.{IsLogText, IsTaken, fault_bytes, stimulus_bytes, state_bytes, RefusesStimulus, stimulus_too_long, stimulus_faulty, TakesStimulus, Runs, stimulus_refused, written, RefusesState, state_too_long, state_faulty, TakesState, no_state, told_state, RunsFrom, given_refused, state_refused, begun, JudgesTexts, refused, accepted, listed, divided, refined, ran, watch_unknown, dumped, saved, resumed, logged, Judges, joined_too_long, no_stimulus, circuit_too_long, taken, AnswersTo, of_joined, of_long_circuit, of_two, of_long_joined, of_state, of_made, of_made_refused, Answers, no_command, answered}
use Rattle.sim_top.proofs.Apart.{accepted_items, accepted_names}
use Rattle.asked_texts.proofs.Splitting.{part_once, run_has_line}

pub some_same : {A : Type 0} (x y : A) → Some x ≡ Some y → x ≡ y
some_same x y e = cc e

-- the listing of a circuit: it shows the declared types and the modules that are reached
abbrev declared_at : Circuit → List Bool → List FirType → Fitted
declared_at circuit reached declared = record { checked = flagged circuit reached; declared = declared; nodes = [] }

same_listing : (circuit : Circuit) (first second : Fitted) → IsFittedCircuit circuit first → IsFittedCircuit circuit second → listing_of first ≡ listing_of second
same_listing circuit first second p q =
    same_at (λ c r. listing_of (declared_at c r first.declared)) first.checked.resolved second.checked.resolved first.checked.scope.reached second.checked.scope.reached
    (p.solved.circuit_is ∙ sym q.solved.circuit_is) (same_modules circuit first second p q)
    ∙ ap (λ x. listing_of (declared_at second.checked.resolved second.checked.scope.reached x)) (same_declared circuit first second p q)

listed_once : (text : List ℕ) (first second : Fitted) → IsAccepted text first → IsAccepted text second → listing_of first ≡ listing_of second
listed_once text first second a o =
    let same = accepted_once text first second a o in
    same_listing first.checked.resolved first second a.clocked.driven.fits.types
    (subst (λ (x : Circuit). IsFittedCircuit x second) (sym same.0) o.clocked.driven.fits.types)

-- a stimulus has one trace, one dump of the same words, and one log
abbrev WritesOnce : (Stimulus → List ℕ → Type 0) → Type 0
WritesOnce Writes = (stimulus : Stimulus) (bytes other : List ℕ) → Writes stimulus bytes → Writes stimulus other → bytes ≡ other

one_trace : (text : List ℕ) (fitted : Fitted) → IsAccepted text fitted → WritesOnce (IsTraceText fitted.checked.resolved.names (design_of fitted))
one_trace text fitted a stimulus bytes other p q =
    let well = fitted_well_formed text fitted a.clocked.driven.fits in
    let rows = rows_once fitted well a.no_loop first_state (all_inputs (design_of fitted) stimulus) p.rows q.rows p.trace q.trace in
    p.is ∙ (ap (λ rs. header_of (watched_names fitted.checked.resolved.names (design_of fitted)) ++ flat_map line_of (enumerate_from 0 rs)) rows ∙ sym q.is)

same_dump : (text : List ℕ) (fitted : Fitted) → IsAccepted text fitted → (names : List (List ℕ)) → WritesOnce (IsVcdText fitted.checked.resolved.names (design_of fitted) names)
same_dump text fitted a names = one_dump fitted.checked.resolved.names fitted (fitted_well_formed text fitted a.clocked.driven.fits) a.no_loop names

same_log : (text : List ℕ) (fitted : Fitted) → IsAccepted text fitted → WritesOnce (IsLogText fitted)
same_log text fitted a stimulus bytes other p q =
    one_log fitted.checked.resolved.names fitted fitted.checked.resolved.prints (fitted_well_formed text fitted a.clocked.driven.fits) a.no_loop
    (accepted_items text fitted a) (all_inputs (design_of fitted) stimulus) bytes other p q

-- a run
too_long : (n limit : ℕ) → limit < n → n ≤ limit → ⊥
too_long n limit lt le = omega (arith, lt, le)

same_stimulus_fault : (f g : StimFault) (p q : Place) → f ≡ g → place_of f ≡ Some p → place_of g ≡ Some q → stimulus_bytes f p ≡ stimulus_bytes g q
same_stimulus_fault f g p q e is at = ap₂ stimulus_bytes e (some_same p q (sym is ∙ ap place_of e ∙ at))

abbrev FirstIn : List ℕ → StimFault → Ports → Type 0
FirstIn text fault ports = IsFirst place_of rank_of (IsFault text ports) fault

one_refusal : (texts : Texts) (design : Design) (text b d : List ℕ) → RefusesStimulus texts design text b → RefusesStimulus texts design text d → b ≡ d
one_refusal texts design text _ _ (stimulus_too_long l) (stimulus_too_long m) = refl
one_refusal texts design text _ _ (stimulus_too_long l) (stimulus_faulty ports g q w p f at) = absurd (too_long (length text) stimulus_limit l w)
one_refusal texts design text _ _ (stimulus_faulty ports g q w p f at) (stimulus_too_long l) = absurd (too_long (length text) stimulus_limit l w)
one_refusal texts design text _ _ (stimulus_faulty ports f p w are is at) (stimulus_faulty others g q v are' is' at') =
    let same = ports_once texts design others ports are' are in
    same_stimulus_fault f g p q (one_first place_of rank_of one_each f g is (subst (FirstIn text g) same is')) at at'

refused_or_taken : (texts : Texts) (design : Design) (text b : List ℕ) (stimulus : Stimulus) → RefusesStimulus texts design text b → TakesStimulus texts design text stimulus → ⊥
refused_or_taken texts design text _ stimulus (stimulus_too_long l) t = too_long (length text) stimulus_limit l t.within
refused_or_taken texts design text _ stimulus (stimulus_faulty ports f p w are is at) t =
    t.faultless f (subst (λ (x : Ports). IsFault text x f) (ports_once texts design ports t.ports are t.are_ports) is.is)

taken_once : (texts : Texts) (design : Design) (text : List ℕ) (u v : Stimulus) → TakesStimulus texts design text u → TakesStimulus texts design text v → v ≡ u
taken_once texts design text u v t o =
    stimulus_once text t.ports v u (subst (λ (y : Ports). IsStimulus text y v) (ports_once texts design o.ports t.ports o.are_ports t.are_ports) o.is) t.is

runs_once : (texts : Texts) (design : Design) (Writes : Stimulus → List ℕ → Type 0) → WritesOnce Writes → (text : List ℕ) (s t : ℕ) (b d : List ℕ) → Runs texts design Writes text s b
    → Runs texts design Writes text t d → (s ≡ t) × (b ≡ d)
runs_once texts design Writes one text _ _ b d (stimulus_refused _ r) (stimulus_refused _ q) = (refl, one_refusal texts design text b d r q)
runs_once texts design Writes one text _ _ b d (stimulus_refused _ r) (written v _ o q) = absurd (refused_or_taken texts design text b v r o)
runs_once texts design Writes one text _ _ b d (written u _ t p) (stimulus_refused _ r) = absurd (refused_or_taken texts design text d u r t)
runs_once texts design Writes one text _ _ b d (written u _ t p) (written v _ o q) =
    (refl, one u b d p (subst (λ y. Writes y d) (taken_once texts design text u v t o) q))

-- a run that begins with a state
same_state_fault : (f g : StateFault) (p q : Place) → f ≡ g → place_in_state f ≡ Some p → place_in_state g ≡ Some q → state_bytes f p ≡ state_bytes g q
same_state_fault f g p q e is at = ap₂ state_bytes e (some_same p q (sym is ∙ ap place_in_state e ∙ at))

abbrev WritesFrom : Type 1
WritesFrom = Option (List ℕ) → Stimulus → List ℕ → Type 0

-- A text has one first fault of its state, and from one that has a fault nothing is written; from a state, or none, a stimulus has one text.
record BeginsOnce (texts : Texts) (design : Design) (Writes : WritesFrom) : Type 0 where
  faults : (state : List ℕ) (f g : StateFault) → IsFirstStateFault texts design state f → IsFirstStateFault texts design state g → f ≡ g
  faultless : (state : List ℕ) (fault : StateFault) (stimulus : Stimulus) (bytes : List ℕ) → IsFirstStateFault texts design state fault → Writes (Some state) stimulus bytes → ⊥
  once : (state : Option (List ℕ)) → WritesOnce (Writes state)

module _ (texts : Texts) (design : Design) (Writes : WritesFrom) (begins : BeginsOnce texts design Writes) where
  one_state_refusal : (begin : Option StateText) (b d : List ℕ) → RefusesState texts design begin b → RefusesState texts design begin d → b ≡ d
  one_state_refusal None b d r q = elim r [ ]
  one_state_refusal (Some Too_long) _ _ state_too_long state_too_long = refl
  one_state_refusal (Some (Told state)) _ _ (state_faulty _ f p is at) (state_faulty _ g q is' at') = same_state_fault f g p q (begins.faults state f g is is') at at'

  state_refused_or_taken : (begin : Option StateText) (state : Option (List ℕ)) (stimulus : Stimulus) (b d : List ℕ) → RefusesState texts design begin b → TakesState begin state
      → Writes state stimulus d → ⊥
  state_refused_or_taken None state stimulus b d r k w = elim r [ ]
  state_refused_or_taken (Some Too_long) state stimulus b d r k w = elim k [ ]
  state_refused_or_taken (Some (Told text)) _ stimulus _ d (state_faulty _ f p is at) (told_state _) w = begins.faultless text f stimulus d is w

  state_once : (begin : Option StateText) (s t : Option (List ℕ)) → TakesState begin s → TakesState begin t → s ≡ t
  state_once None _ _ no_state no_state = refl
  state_once (Some Too_long) s t k l = elim k [ ]
  state_once (Some (Told text)) _ _ (told_state _) (told_state _) = refl

  begun_once : (begin : Option StateText) (text : List ℕ) (s t : ℕ) (b d : List ℕ) → RunsFrom texts design Writes begin text s b → RunsFrom texts design Writes begin text t d → (s ≡ t) × (b ≡ d)
  begun_once begin text _ _ b d (given_refused _ r) (given_refused _ q) = (refl, one_refusal texts design text b d r q)
  begun_once begin text _ _ b d (given_refused _ r) (state_refused v _ o q) = absurd (refused_or_taken texts design text b v r o)
  begun_once begin text _ _ b d (given_refused _ r) (begun v state _ o k w) = absurd (refused_or_taken texts design text b v r o)
  begun_once begin text _ _ b d (state_refused u _ t r) (given_refused _ q) = absurd (refused_or_taken texts design text d u q t)
  begun_once begin text _ _ b d (state_refused u _ t r) (state_refused v _ o q) = (refl, one_state_refusal begin b d r q)
  begun_once begin text _ _ b d (state_refused u _ t r) (begun v state _ o k w) = absurd (state_refused_or_taken begin state v b d r k w)
  begun_once begin text _ _ b d (begun u state _ t k w) (given_refused _ q) = absurd (refused_or_taken texts design text d u q t)
  begun_once begin text _ _ b d (begun u state _ t k w) (state_refused v _ o q) = absurd (state_refused_or_taken begin state u d b q k w)
  begun_once begin text _ _ b d (begun u state _ t k w) (begun v other _ o l x) =
      (refl, begins.once state u b d w (subst (λ z. Writes z u d) (state_once begin other state l k) (subst (λ y. Writes other y d) (taken_once texts design text u v t o) x)))

-- where the circuit's text was taken
same_fault : (f g : CircuitFault) (p q : Place) → f ≡ g → fault_place f ≡ Some p → fault_place g ≡ Some q → fault_bytes f p ≡ fault_bytes g q
same_fault f g p q e is at = ap₂ fault_bytes e (some_same p q (sym is ∙ ap fault_place e ∙ at))

-- what is said of a fitted circuit holds of another one that the text was accepted as
carried_over : (P : Circuit → Design → Type 0) (text : List ℕ) (first second : Fitted) → IsAccepted text first → IsAccepted text second
    → P first.checked.resolved (design_of first) → P second.checked.resolved (design_of second)
carried_over P text first second a o p =
    let same = accepted_once text first second a o in
    subst (λ (x : Design). P second.checked.resolved x) same.1 (subst (λ (c : Circuit). P c (design_of first)) same.0 p)

carried : (P : Texts → Design → Type 0) (text : List ℕ) (first second : Fitted) → IsAccepted text first → IsAccepted text second
    → P first.checked.resolved.names (design_of first) → P second.checked.resolved.names (design_of second)
carried P = carried_over (λ circuit. P circuit.names)

abbrev Logs : Circuit → Design → Stimulus → List ℕ → Type 0
Logs circuit design given = IsLogOf circuit.names design circuit.prints (all_inputs design given)

abbrev Saves : Texts → Design → WritesFrom
Saves texts design state given = IsSavedText texts design given state

abbrev Resumes : Texts → Design → WritesFrom
Resumes texts design state given = IsResumedText texts design given state

sound : (text : List ℕ) (fitted : Fitted) → IsAccepted text fitted → IsSound fitted.checked.resolved.names (design_of fitted)
sound text fitted a = well_formed_is_sound fitted.checked.resolved.names fitted (fitted_well_formed text fitted a.clocked.driven.fits) a.no_loop

begins_faultless : (text : List ℕ) (fitted : Fitted) → IsAccepted text fitted → (state : List ℕ) (fault : StateFault) (s : State) (snapshot : Snapshot)
    → IsFirstStateFault fitted.checked.resolved.names (design_of fitted) state fault → Begins fitted.checked.resolved.names (design_of fitted) (Some state) s snapshot → ⊥
begins_faultless text fitted a state fault _ _ f (from_text _ s snapshot read) =
    no_state_fault fitted.checked.resolved.names (accepted_names text fitted a) (design_of fitted) (sound text fitted a) state s snapshot fault read f

saves_once : (text : List ℕ) (fitted : Fitted) → IsAccepted text fitted → BeginsOnce fitted.checked.resolved.names (design_of fitted) (Saves fitted.checked.resolved.names (design_of fitted))
saves_once text fitted a = record {
  faults = fault_once fitted.checked.resolved.names (design_of fitted) (sound text fitted a);
  faultless = λ state fault stimulus bytes f w. begins_faultless text fitted a state fault w.start w.snapshot f w.begins;
  once = λ state stimulus. saved_once fitted.checked.resolved.names (design_of fitted) (sound text fitted a) stimulus state;
}

resumes_once : (text : List ℕ) (fitted : Fitted) → IsAccepted text fitted → BeginsOnce fitted.checked.resolved.names (design_of fitted) (Resumes fitted.checked.resolved.names (design_of fitted))
resumes_once text fitted a = record {
  faults = fault_once fitted.checked.resolved.names (design_of fitted) (sound text fitted a);
  faultless = λ state fault stimulus bytes f w. begins_faultless text fitted a state fault w.start w.snapshot f w.begins;
  once = λ state stimulus. resumed_once fitted.checked.resolved.names (design_of fitted) (sound text fitted a) stimulus state;
}

texts_once : (job : Job) (text stimulus : List ℕ) (s t : ℕ) (b d : List ℕ) → JudgesTexts job text stimulus s b → JudgesTexts job text stimulus t d
    → (s ≡ t) × (b ≡ d)
texts_once job text stimulus _ _ _ _ (refused _ _ _ f p is at) (refused _ _ _ g q is' at') = (refl, same_fault f g p q (one_fault text f g is is') at at')
texts_once Check text stimulus _ _ _ _ (refused _ _ _ f p is at) (accepted _ _ fitted a) = absurd (no_fault text f fitted is a)
texts_once Check text stimulus _ _ _ _ (accepted _ _ fitted a) (refused _ _ _ f p is at) = absurd (no_fault text f fitted is a)
texts_once Check text stimulus _ _ _ _ (accepted _ _ fitted a) (accepted _ _ other o) = (refl, refl)
texts_once Widths text stimulus _ _ _ _ (refused _ _ _ f p is at) (listed _ _ fitted a) = absurd (no_fault text f fitted is a)
texts_once Widths text stimulus _ _ _ _ (listed _ _ fitted a) (refused _ _ _ f p is at) = absurd (no_fault text f fitted is a)
texts_once Widths text stimulus _ _ _ _ (listed _ _ fitted a) (listed _ _ other o) = (refl, listed_once text fitted other a o)
texts_once (Cut workers) text stimulus _ _ _ _ (refused _ _ _ f p is at) (divided _ _ _ fitted _ a cuts) = absurd (no_fault text f fitted is a)
texts_once (Cut workers) text stimulus _ _ _ _ (divided _ _ _ fitted _ a cuts) (refused _ _ _ f p is at) = absurd (no_fault text f fitted is a)
texts_once (Cut workers) text stimulus _ _ b d (divided _ _ _ fitted _ a cuts) (divided _ _ _ other _ o others) =
    let here = carried (λ texts design. IsCutText texts design workers d) text other fitted o a others in
    (refl, one_cut fitted.checked.resolved.names fitted (fitted_well_formed text fitted a.clocked.driven.fits) workers b d cuts here)
texts_once (Refine workers) text stimulus _ _ _ _ (refused _ _ _ f p is at) (refined _ _ _ fitted _ a cuts) = absurd (no_fault text f fitted is a)
texts_once (Refine workers) text stimulus _ _ _ _ (refined _ _ _ fitted _ a cuts) (refused _ _ _ f p is at) = absurd (no_fault text f fitted is a)
texts_once (Refine workers) text stimulus _ _ b d (refined _ _ _ fitted _ a cuts) (refined _ _ _ other _ o others) =
    let here = carried (λ texts design. IsRefinedText texts design workers d) text other fitted o a others in
    (refl, one_refined_text fitted.checked.resolved.names fitted (fitted_well_formed text fitted a.clocked.driven.fits) workers b d cuts here)
texts_once Run text stimulus _ _ _ _ (refused _ _ _ f p is at) (ran _ _ fitted _ _ a r) = absurd (no_fault text f fitted is a)
texts_once Run text stimulus _ _ _ _ (ran _ _ fitted _ _ a r) (refused _ _ _ f p is at) = absurd (no_fault text f fitted is a)
texts_once Run text stimulus s t b d (ran _ _ fitted _ _ a r) (ran _ _ other _ _ o q) =
    let here = carried (λ texts design. Runs texts design (IsTraceText texts design) stimulus t d) text other fitted o a q in
    runs_once fitted.checked.resolved.names (design_of fitted) (IsTraceText fitted.checked.resolved.names (design_of fitted)) (one_trace text fitted a) stimulus s t b d r here
texts_once (Vcd names) text stimulus _ _ _ _ (refused _ _ _ f p is at) (watch_unknown _ _ _ fitted a none) = absurd (no_fault text f fitted is a)
texts_once (Vcd names) text stimulus _ _ _ _ (refused _ _ _ f p is at) (dumped _ _ _ fitted _ _ a known r) = absurd (no_fault text f fitted is a)
texts_once (Vcd names) text stimulus _ _ _ _ (watch_unknown _ _ _ fitted a none) (refused _ _ _ f p is at) = absurd (no_fault text f fitted is a)
texts_once (Vcd names) text stimulus _ _ _ _ (watch_unknown _ _ _ fitted a none) (watch_unknown _ _ _ other o nothing) = (refl, refl)
texts_once (Vcd names) text stimulus _ _ _ _ (watch_unknown _ _ _ fitted a none) (dumped _ _ _ other _ _ o known r) =
    absurd (known (carried (λ texts design. NamesNoLeaf texts design names) text fitted other a o none))
texts_once (Vcd names) text stimulus _ _ _ _ (dumped _ _ _ fitted _ _ a known r) (refused _ _ _ f p is at) = absurd (no_fault text f fitted is a)
texts_once (Vcd names) text stimulus _ _ _ _ (dumped _ _ _ fitted _ _ a known r) (watch_unknown _ _ _ other o none) =
    absurd (known (carried (λ texts design. NamesNoLeaf texts design names) text other fitted o a none))
texts_once (Vcd names) text stimulus s t b d (dumped _ _ _ fitted _ _ a known r) (dumped _ _ _ other _ _ o knows q) =
    let here = carried (λ texts design. Runs texts design (IsVcdText texts design names) stimulus t d) text other fitted o a q in
    runs_once fitted.checked.resolved.names (design_of fitted) (IsVcdText fitted.checked.resolved.names (design_of fitted) names) (same_dump text fitted a names) stimulus s t b d r here
texts_once (Save begin) text stimulus _ _ _ _ (refused _ _ _ f p is at) (saved _ _ _ fitted _ _ a r) = absurd (no_fault text f fitted is a)
texts_once (Save begin) text stimulus _ _ _ _ (saved _ _ _ fitted _ _ a r) (refused _ _ _ f p is at) = absurd (no_fault text f fitted is a)
texts_once (Save begin) text stimulus s t b d (saved _ _ _ fitted _ _ a r) (saved _ _ _ other _ _ o q) =
    let here = carried (λ texts design. RunsFrom texts design (Saves texts design) begin stimulus t d) text other fitted o a q in
    begun_once fitted.checked.resolved.names (design_of fitted) (Saves fitted.checked.resolved.names (design_of fitted)) (saves_once text fitted a) begin stimulus s t b d r here
texts_once (Resume begin) text stimulus _ _ _ _ (refused _ _ _ f p is at) (resumed _ _ _ fitted _ _ a r) = absurd (no_fault text f fitted is a)
texts_once (Resume begin) text stimulus _ _ _ _ (resumed _ _ _ fitted _ _ a r) (refused _ _ _ f p is at) = absurd (no_fault text f fitted is a)
texts_once (Resume begin) text stimulus s t b d (resumed _ _ _ fitted _ _ a r) (resumed _ _ _ other _ _ o q) =
    let here = carried (λ texts design. RunsFrom texts design (Resumes texts design) (Some begin) stimulus t d) text other fitted o a q in
    begun_once fitted.checked.resolved.names (design_of fitted) (Resumes fitted.checked.resolved.names (design_of fitted)) (resumes_once text fitted a) (Some begin) stimulus s t b d r here
texts_once Log text stimulus _ _ _ _ (refused _ _ _ f p is at) (logged _ _ fitted _ _ a r) = absurd (no_fault text f fitted is a)
texts_once Log text stimulus _ _ _ _ (logged _ _ fitted _ _ a r) (refused _ _ _ f p is at) = absurd (no_fault text f fitted is a)
texts_once Log text stimulus s t b d (logged _ _ fitted _ _ a r) (logged _ _ other _ _ o q) =
    let here = carried_over (λ circuit design. Runs circuit.names design (Logs circuit design) stimulus t d) text other fitted o a q in
    runs_once fitted.checked.resolved.names (design_of fitted) (IsLogText fitted) (same_log text fitted a) stimulus s t b d r here

-- what is answered to a text
other_part : (job : Job) (joined circuit stimulus : List ℕ) → IsPart job joined circuit stimulus → circuit_limit < length circuit
    → (other more : List ℕ) → IsTaken job joined other more → ⊥
other_part job joined circuit stimulus p l other more t =
    let e = (part_once job joined circuit stimulus other more p t.part).0 in
    let h = t.short in
    let k : length circuit ≡ length other = ap length e in omega (arith, l, h, k)

too_long_here : (texts : List ℕ → Option (List ℕ)) (limit : ℕ) (name text other : List ℕ) → texts name ≡ Some text → texts name ≡ Some other → limit < length text
    → length other ≤ limit → ⊥
too_long_here texts limit name text other h k l m =
    let same : length text ≡ length other = ap length (some_same text other (sym h ∙ k)) in omega (arith, l, m, same)

judged_once : (job : Job) (joined : List ℕ) (s t : ℕ) (b d : List ℕ) → Judges job joined s b → Judges job joined t d
    → (s ≡ t) × (b ≡ d)
judged_once job joined _ _ _ _ (joined_too_long _ _ l) (joined_too_long _ _ m) = (refl, refl)
judged_once job joined _ _ _ _ (joined_too_long _ _ l) (no_stimulus _ _ runs w n) = absurd (too_long (length joined) joined_limit l w)
judged_once job joined _ _ _ _ (joined_too_long _ _ l) (circuit_too_long _ _ circuit stimulus w p m) = (refl, refl)
judged_once job joined _ _ _ _ (joined_too_long _ _ l) (taken _ _ circuit stimulus _ _ k j) = absurd (too_long (length joined) joined_limit l k.within)
judged_once job joined _ _ _ _ (no_stimulus _ _ runs w n) (joined_too_long _ _ m) = absurd (too_long (length joined) joined_limit m w)
judged_once job joined _ _ _ _ (no_stimulus _ _ runs w n) (no_stimulus _ _ more v m) = (refl, refl)
judged_once job joined _ _ _ _ (no_stimulus _ _ runs w n) (circuit_too_long _ _ circuit stimulus v p m) = absurd (run_has_line job joined circuit stimulus runs p n)
judged_once job joined _ _ _ _ (no_stimulus _ _ runs w n) (taken _ _ circuit stimulus _ _ k j) = absurd (run_has_line job joined circuit stimulus runs k.part n)
judged_once job joined _ _ _ _ (circuit_too_long _ _ circuit stimulus w p l) (joined_too_long _ _ m) = (refl, refl)
judged_once job joined _ _ _ _ (circuit_too_long _ _ circuit stimulus w p l) (no_stimulus _ _ runs v n) = absurd (run_has_line job joined circuit stimulus runs p n)
judged_once job joined _ _ _ _ (circuit_too_long _ _ circuit stimulus w p l) (circuit_too_long _ _ other more v q m) = (refl, refl)
judged_once job joined _ _ _ _ (circuit_too_long _ _ circuit stimulus w p l) (taken _ _ other more _ _ k j) = absurd (other_part job joined circuit stimulus p l other more k)
judged_once job joined _ _ _ _ (taken _ _ circuit stimulus _ _ k j) (joined_too_long _ _ m) = absurd (too_long (length joined) joined_limit m k.within)
judged_once job joined _ _ _ _ (taken _ _ circuit stimulus _ _ k j) (no_stimulus _ _ runs v n) = absurd (run_has_line job joined circuit stimulus runs k.part n)
judged_once job joined _ _ _ _ (taken _ _ circuit stimulus _ _ k j) (circuit_too_long _ _ other more v q m) = absurd (other_part job joined other more q m circuit stimulus k)
judged_once job joined s t b d (taken _ _ circuit stimulus _ _ k j) (taken _ _ other more _ _ h i) =
    let e = part_once job joined other more circuit stimulus h.part k.part in
    texts_once job circuit stimulus s t b d j (subst (λ x. JudgesTexts job circuit x t d) e.1 (subst (λ x. JudgesTexts job x more t d) e.0 i))

-- what a text that is made answers
two_summaries : (joined trace other b d : List ℕ) → Judges Run joined 0 trace → Judges Run joined 0 other → IsSummary trace b → IsSummary other d → b ≡ d
two_summaries joined trace other b d j i s r =
    summary_once trace b d s (subst (λ x. IsSummary x d) (judged_once Run joined 0 0 other trace i j).1 r)

no_summary : (joined trace : List ℕ) (s : ℕ) (d : List ℕ) → Judges Run joined 0 trace → Judges Run joined s d → s ≢ 0 → ⊥
no_summary joined trace s d j i n = n (judged_once Run joined s 0 d trace i j).0

-- what is asked
asked_once : (texts : List ℕ → Option (List ℕ)) (question : Question) (s t : ℕ) (b d : List ℕ) → AnswersTo texts question s b → AnswersTo texts question t d
    → (s ≡ t) × (b ≡ d)
asked_once texts (Of_joined job name) s t b d (of_joined _ _ joined _ _ h j) (of_joined _ _ text _ _ k i) =
    let x : text ≡ joined = some_same text joined (sym k ∙ h) in
    judged_once job joined s t b d j (subst (λ y. Judges job y t d) x i)
asked_once texts (Of_two circuit stimulus) _ _ _ _ (of_long_circuit _ _ text h l) (of_long_circuit _ _ other k m) = (refl, refl)
asked_once texts (Of_two circuit stimulus) _ _ _ _ (of_long_circuit _ _ text h l) (of_two _ _ other given _ _ k m g j) = absurd (too_long_here texts circuit_limit circuit text other h k l m)
asked_once texts (Of_two circuit stimulus) _ _ _ _ (of_two _ _ other given _ _ k m g j) (of_long_circuit _ _ text h l) = absurd (too_long_here texts circuit_limit circuit text other h k l m)
asked_once texts (Of_two circuit stimulus) s t b d (of_two _ _ text given _ _ h l g j) (of_two _ _ other more _ _ k m f i) =
    let x : other ≡ text = some_same other text (sym k ∙ h) in
    let y : more ≡ given = some_same more given (sym f ∙ g) in
    texts_once Run text given s t b d j (subst (λ z. JudgesTexts Run text z t d) y (subst (λ z. JudgesTexts Run z more t d) x i))
asked_once texts (Of_state keeping circuit state) _ _ _ _ (of_long_joined _ _ _ joined h l) (of_long_joined _ _ _ other k m) = (refl, refl)
asked_once texts (Of_state keeping circuit state) _ _ _ _ (of_long_joined _ _ _ joined h l) (of_state _ _ _ other text _ _ k m g j) = absurd (too_long_here texts joined_limit circuit joined other h k l m)
asked_once texts (Of_state keeping circuit state) _ _ _ _ (of_state _ _ _ other text _ _ k m g j) (of_long_joined _ _ _ joined h l) = absurd (too_long_here texts joined_limit circuit joined other h k l m)
asked_once texts (Of_state keeping circuit state) s t b d (of_state _ _ _ joined text _ _ h l g j) (of_state _ _ _ other more _ _ k m f i) =
    let x : other ≡ joined = some_same other joined (sym k ∙ h) in
    let y : more ≡ text = some_same more text (sym f ∙ g) in
    judged_once (job_from keeping (told text)) joined s t b d j (subst (λ z. Judges (job_from keeping (told z)) joined t d) y (subst (λ z. Judges (job_from keeping (told more)) z t d) x i))
asked_once texts (Of_made cycles size) _ _ b d (of_made _ _ trace _ j s) (of_made _ _ other _ i r) =
    (refl, two_summaries (ring_text size cycles) trace other b d j i s r)
asked_once texts (Of_made cycles size) _ t b d (of_made _ _ trace _ j s) (of_made_refused _ _ _ _ i n) = absurd (no_summary (ring_text size cycles) trace t d j i n)
asked_once texts (Of_made cycles size) s _ b d (of_made_refused _ _ _ _ j n) (of_made _ _ trace _ i r) = absurd (no_summary (ring_text size cycles) trace s b i j n)
asked_once texts (Of_made cycles size) s t b d (of_made_refused _ _ _ _ j n) (of_made_refused _ _ _ _ i m) = judged_once Run (ring_text size cycles) s t b d j i

pub no_reading : (words : List (List ℕ)) (question : Question) → asked_by words ≡ None → asked_by words ≡ Some question → ⊥
no_reading words question e f = let g : None ≡ Some question = sym e ∙ f in cc

pub answers_once : (words : List (List ℕ)) (texts : List ℕ → Option (List ℕ)) (s t : ℕ) (b d : List ℕ) → Answers words texts s b → Answers words texts t d
    → (s ≡ t) × (b ≡ d)
answers_once words texts _ _ _ _ (no_command _ _ e) (no_command _ _ f) = (refl, refl)
answers_once words texts _ _ _ _ (no_command _ _ e) (answered _ _ question _ _ f a) = absurd (no_reading words question e f)
answers_once words texts _ _ _ _ (answered _ _ question _ _ f a) (no_command _ _ e) = absurd (no_reading words question e f)
answers_once words texts s t b d (answered _ _ question _ _ e a) (answered _ _ other _ _ f o) =
    let q : other ≡ question = some_same other question (sym f ∙ e) in
    asked_once texts question s t b d a (subst (λ x. AnswersTo texts x t d) q o)

pub answer_status : (words : List (List ℕ)) (texts : List ℕ → Option (List ℕ)) (s t : ℕ) (b d : List ℕ) → Answers words texts s b → Answers words texts t d → s ≡ t
answer_status words texts s t b d f g = (answers_once words texts s t b d f g).0

pub answer_bytes : (words : List (List ℕ)) (texts : List ℕ → Option (List ℕ)) (s t : ℕ) (b d : List ℕ) → Answers words texts s b → Answers words texts t d → b ≡ d
answer_bytes words texts s t b d f g = (answers_once words texts s t b d f g).1

-- words that ask for one thing have the same answers
pub same_answers : (words others : List (List ℕ)) → asked_by words ≡ asked_by others → (texts : List ℕ → Option (List ℕ)) (s : ℕ) (b : List ℕ) → Answers words texts s b
    → Answers others texts s b
same_answers words others same texts _ _ (no_command _ _ e) = no_command others texts (sym same ∙ e)
same_answers words others same texts s b (answered _ _ question _ _ e a) = answered others texts question s b (sym same ∙ e) a
