-- What a command answers, from what the text is.
use Rattle.std.proofs.Common.{◌≡◌, ◌≢◌, ℕ, ◌<◌, ◌≤◌, true, false, List, ◌⊎◌, ⊎_elim, length, sym, ap, ◌∙◌, subst, arith}
use Rattle.std.specs.Prelude.{Option, Some, None, option_map, Result, Ok, Err, codes}
use Rattle.place_text.specs.declared.place.Place.{Place}
use Rattle.place_text.specs.Places.{first_place}
use Rattle.place_text.specs.First.{IsFirst}
use Rattle.place_text.specs.Verdicts.{IsVerdict}
use Rattle.fir_meaning.specs.Components.{design_of}
use Rattle.stimulus.specs.declared.stimulus.Stimulus.{Stimulus}
use Rattle.stimulus.specs.declared.fault.StimFault.{StimFault}
use Rattle.stimulus.specs.Faults.{IsFault, place_of, rank_of}
use Rattle.stimulus.specs.Stimuli.{IsStimulus}
use Rattle.ground_net.specs.declared.net.PortLeaf.{PortLeaf}
use Rattle.ground_net.specs.Cycles as net_cycles
use Rattle.snapshot_text.specs.declared.snapshot.Snapshot.{Snapshot}
use Rattle.snapshot_text.specs.declared.fault.StateFault.{StateFault}
use Rattle.snapshot_text.specs.Cells.{cells_of}
use Rattle.snapshot_text.specs.Snapshots.{IsSnapshot}
use Rattle.snapshot_text.specs.Faults.{IsFault as IsStateFault, place_of as place_in_state, rank_of as rank_in_state}
use Rattle.circuit_texts.specs.Held.{IsStartOf}
use Rattle.circuit_texts.specs.StateTexts.{IsResumedText, IsSavedText}
use Rattle.cut_listing.specs.CircuitCuts.{IsCutText}
use Rattle.cut_listing.specs.RefinedTexts.{IsRefinedText}
use Rattle.circuit_texts.specs.Variables.{NamesNoLeaf}
use Rattle.circuit_texts.specs.NetNames.{AreNumbersOf}
use Rattle.circuit_run.specs.Ports.{ArePortsOf}
use Rattle.circuit_run.proofs.Parts.{ports_of_circuit}
use Rattle.trace_print.specs.Listing.{listing_of}
use Rattle.sim_engine.specs.Stages.{circuit_limit, IsFirstFault}
use Rattle.sim_engine.specs.Building.{IsBuilt}
use Rattle.sim_engine.specs.Faults.{fault_place}
use Rattle.sim_engine.specs.declared.compile.Built.{Built}
use Rattle.sim_engine.specs.declared.fault.CircuitFault.{CircuitFault}
use Rattle.sim_engine.specs.declared.fault.CircuitFault.TheVariants.{NoMemory}
use Rattle.asked_texts.specs.declared.words.StateText.{StateText as GivenText}
use Rattle.asked_texts.specs.declared.words.Command.{Command}
use Rattle.asked_texts.specs.declared.words.Command.TheVariants as asked
use Rattle.asked_texts.specs.declared.texts.WholeFault.TheVariants.{TooLong, NoStimulus, WatchUnknown}
use Rattle.sim_top.specs.declared.judge.Reply.{Reply}
use Rattle.sim_top.specs.declared.judge.Decision.{Decision}
use Rattle.sim_top.specs.declared.judge.Decision.TheVariants as decision
use Rattle.asked_texts.specs.Commands.{StateText, Told, Too_long, joined_limit, Job, Run, Check, Widths, Cut, Refine, Vcd, Save, Resume, Log, text_given, job}
use Rattle.asked_texts.specs.Texts.{HasNone, IsPart, reads_all, stimulus_limit}
use Rattle.sim_top.specs.Answers.{fault_bytes, whole_bytes, stimulus_bytes, whole_stimulus_bytes, RefusesStimulus, stimulus_too_long, stimulus_faulty, TakesStimulus, stimulus_refused, written, whole_state_bytes, state_bytes, RefusesState, state_too_long, state_faulty, TakesState, RunsFrom, given_refused, state_refused, begun, JudgesTexts, refused, accepted, listed, divided, refined, ran, watch_unknown, dumped, saved, resumed, logged, Judges, no_stimulus, circuit_too_long, taken}
use Rattle.sim_top.specs.Endings.{Gives, IsFor, IsStart}

-- what a decision has, it has of all that this is true of
pub gives_more : (P Q : ℕ → List ℕ → Type 0) → ((s : ℕ) (b : List ℕ) → P s b → Q s b) → (d : Decision) → Gives P d → Gives Q d
gives_more P Q more (decision.Say reply) g = more _ _ g
gives_more P Q more (decision.Run built settings watched) g = λ bytes t. more 0 bytes (g bytes t)
gives_more P Q more (decision.Dump built settings numbers) g =
    record { names = g.names; numbered = g.numbered; dumped = λ bytes t. more 0 bytes (g.dumped bytes t) }
gives_more P Q more (decision.Save built settings start) g = record { begin = g.begin; begins = g.begins; written = λ bytes t. more 0 bytes (g.written bytes t) }
gives_more P Q more (decision.Resume built settings watched start) g = record { begin = g.begin; begins = g.begins; written = λ bytes t. more 0 bytes (g.written bytes t) }
gives_more P Q more (decision.Log built settings) g = λ bytes t. more 0 bytes (g bytes t)

-- the parts of a joined text, the circuit's within its limit
pub gives_part : (k : Job) (joined circuit stimulus : List ℕ) (d : Decision) → length joined ≤ joined_limit → IsPart k joined circuit stimulus
    → length circuit ≤ circuit_limit → Gives (JudgesTexts k circuit stimulus) d → Gives (Judges k joined) d
gives_part k joined circuit stimulus d within part short j = gives_more (JudgesTexts k circuit stimulus) (Judges k joined)
    (λ s b. taken k joined circuit stimulus s b (record { within = within; part = part; short = short })) d j

pub long_part : (k : Job) (joined circuit stimulus : List ℕ) → length joined ≤ joined_limit → IsPart k joined circuit stimulus → circuit_limit < length circuit
    → (status : ℕ) (bytes : List ℕ) → status ≡ 2 → bytes ≡ whole_bytes TooLong first_place → Judges k joined status bytes
long_part k joined circuit stimulus within part long status bytes two e = rw (two, e) (circuit_too_long k joined circuit stimulus within part long)

-- what `refuse_unstimulated` answers
abbrev pub IsUnstimulated : Decision → Type 0
IsUnstimulated d = (reply : Reply) × (d ≡ decision.Say reply) × (reply.status ≡ 2) × (reply.bytes.items ≡ whole_bytes NoStimulus first_place)

pub lacks_line : (command : Command) (k : Command) (joined : List ℕ) → command ≡ k → reads_all (job k) ≡ false → length joined ≤ joined_limit → HasNone joined → (d : Decision)
    → IsUnstimulated d → Gives (Judges (job command) joined) d
lacks_line command k joined is runs within none d u =
    let said : Judges (job command) joined u.0.status u.0.bytes.items =
    rw (u.2, u.3) (no_stimulus (job command) joined (ap (λ c. reads_all (job c)) is ∙ runs) within none) in
    subst (Gives (Judges (job command) joined)) (sym u.1) said

pub unstimulated_fits : (j : Job) (d : Decision) → IsUnstimulated d → IsFor j d
unstimulated_fits j d u = subst (IsFor j) (sym u.1) (λ run zero. let two = u.2 in omega (arith, two, zero))

-- of a run no reply has the status 0
pub no_trace : (j : Job) (status n : ℕ) → 1 ≤ n → status ≡ n → j ≡ Run → status ≢ 0
no_trace j status n some e run zero = omega (arith, some, e, zero)

-- a job that doesn't run the circuit is no run
pub no_run : (k : Job) (status : ℕ) → reads_all k ≡ true → k ≡ Run → status ≢ 0
no_run k status unrun run zero = let e : true ≡ false = sym unrun ∙ ap reads_all run in cc

-- a fault that has a place isn't want of memory
pub refused_from : (j : Job) (text stimulus : List ℕ) (fault : CircuitFault) (place : Place) (status : ℕ) (bytes : List ℕ) → (fault ≡ NoMemory) ⊎ IsFirstFault text fault
    → fault_place fault ≡ Some place → status ≡ 2 → bytes ≡ fault_bytes fault place → JudgesTexts j text stimulus status bytes
refused_from j text stimulus fault place status bytes found at two e = rw (two, e)
    (⊎_elim (λ m. absurd (let n : None ≡ Some place = sym (ap fault_place m) ∙ at in cc))
    (λ f. refused j text stimulus fault place f at) found)

-- what `check`, `widths`, `cut` and `refine` answer to what was built
pub checked : (text stimulus : List ℕ) (built : Built) (status : ℕ) (bytes : List ℕ) → IsBuilt text built → status ≡ 0 → bytes ≡ codes "ok\n" → JudgesTexts Check text stimulus status bytes
checked text stimulus built status bytes b zero e =
    rw (zero, e) (accepted text stimulus built.fitted b.accepted)

pub widths : (text stimulus : List ℕ) (built : Built) (status : ℕ) (bytes : List ℕ) → IsBuilt text built → status ≡ 0 → bytes ≡ listing_of built.fitted
    → JudgesTexts Widths text stimulus status bytes
widths text stimulus built status bytes b zero e =
    rw (zero, e) (listed text stimulus built.fitted b.accepted)

pub divided_of : (workers : ℕ) (text stimulus : List ℕ) (built : Built) (status : ℕ) (bytes : List ℕ) → IsBuilt text built → status ≡ 0
    → IsCutText built.fitted.checked.resolved.names (design_of built.fitted) workers bytes → JudgesTexts (Cut workers) text stimulus status bytes
divided_of workers text stimulus built status bytes b zero cuts =
    rw zero (divided workers text stimulus built.fitted bytes b.accepted cuts)

pub refined_of : (workers : ℕ) (text stimulus : List ℕ) (built : Built) (status : ℕ) (bytes : List ℕ) → IsBuilt text built → status ≡ 0
    → IsRefinedText built.fitted.checked.resolved.names (design_of built.fitted) workers bytes → JudgesTexts (Refine workers) text stimulus status bytes
refined_of workers text stimulus built status bytes b zero cuts =
    rw zero (refined workers text stimulus built.fitted bytes b.accepted cuts)

-- a reply is what is answered to each text of what was built
abbrev pub Replies : Job → Built → Reply → Type 0
Replies k built r = (text stimulus : List ℕ) → IsBuilt text built → JudgesTexts k text stimulus r.status r.bytes.items

replies_for : (command k : Command) (built : Built) (r : Reply) → command ≡ k → Replies (job k) built r → Replies (job command) built r
replies_for command k built r is replies = subst (λ x. Replies (job x) built r) (sym is) replies

pub replies_check : (command : Command) (built : Built) → command ≡ asked.Check → (r : Reply) → (r.status ≡ 0) × (r.bytes.items ≡ codes "ok\n") → Replies (job command) built r
replies_check command built is r h = replies_for command asked.Check built r is (λ text stimulus b. checked text stimulus built r.status r.bytes.items b h.0 h.1)

pub replies_widths : (command : Command) (built : Built) → command ≡ asked.Widths → (r : Reply) → (r.status ≡ 0) × (r.bytes.items ≡ listing_of built.fitted) → Replies (job command) built r
replies_widths command built is r h = replies_for command asked.Widths built r is (λ text stimulus b. widths text stimulus built r.status r.bytes.items b h.0 h.1)

pub replies_cut : (command : Command) (workers : ℕ) (built : Built) → command ≡ asked.Cut workers → (r : Reply)
    → (r.status ≡ 0) × IsCutText built.fitted.checked.resolved.names (design_of built.fitted) workers r.bytes.items → Replies (job command) built r
replies_cut command workers built is r h =
    replies_for command (asked.Cut workers) built r is (λ text stimulus b. divided_of workers text stimulus built r.status r.bytes.items b h.0 h.1)

pub replies_refine : (command : Command) (workers : ℕ) (built : Built) → command ≡ asked.Refine workers → (r : Reply)
    → (r.status ≡ 0) × IsRefinedText built.fitted.checked.resolved.names (design_of built.fitted) workers r.bytes.items → Replies (job command) built r
replies_refine command workers built is r h =
    replies_for command (asked.Refine workers) built r is (λ text stimulus b. refined_of workers text stimulus built r.status r.bytes.items b h.0 h.1)

-- what is decided for each stimulus, for one
pub gives_here : (k : Job) (built : Built) (stimulus : List ℕ) (d : Decision) → ((text given : List ℕ) → IsBuilt text built → Gives (JudgesTexts k text given) d)
    → (text : List ℕ) → IsBuilt text built → Gives (JudgesTexts k text stimulus) d
gives_here k built stimulus d h text = h text stimulus

-- the stimulus's text, over the ports of what was built
abbrev pub Refuses : Built → List ℕ → List ℕ → Type 0
Refuses built = RefusesStimulus built.fitted.checked.resolved.names (design_of built.fitted)

abbrev pub Takes : Built → List ℕ → Stimulus → Type 0
Takes built = TakesStimulus built.fitted.checked.resolved.names (design_of built.fitted)

ports_are : (text : List ℕ) (built : Built) → IsBuilt text built → ArePortsOf built.fitted.checked.resolved.names (design_of built.fitted) built.ports
ports_are text built b = ports_of_circuit built.fitted.checked.resolved.names (design_of built.fitted) built.ordered.net b.ordered.serves built.ports b.inputs b.watched b.names

pub refuses_long : (built : Built) (stimulus bytes : List ℕ) → stimulus_limit < length stimulus → bytes ≡ whole_stimulus_bytes TooLong first_place → Refuses built stimulus bytes
refuses_long built stimulus bytes long e = rw e (stimulus_too_long long)

-- what the reading of the stimulus answered
abbrev pub IsRead : List ℕ → Built → Result Stimulus StimFault → Type 0
IsRead stimulus built result = IsVerdict place_of rank_of (IsFault stimulus built.ports) (IsStimulus stimulus built.ports) result

pub refuses_fault : (text stimulus : List ℕ) (built : Built) (fault : StimFault) (place : Place) (bytes : List ℕ) → IsBuilt text built → length stimulus ≤ stimulus_limit
    → IsRead stimulus built (Err fault) → place_of fault ≡ Some place → bytes ≡ stimulus_bytes fault place → Refuses built stimulus bytes
refuses_fault text stimulus built fault place bytes b short v at e = rw e
    (⊎_elim (λ m. absurd (let n : None ≡ Some place = sym m ∙ at in cc))
    (λ f. stimulus_faulty built.ports fault place short (ports_are text built b) f at) v.fault)

pub takes_read : (text stimulus : List ℕ) (built : Built) (settings : Stimulus) → IsBuilt text built → length stimulus ≤ stimulus_limit → IsRead stimulus built (Ok settings)
    → Takes built stimulus settings
takes_read text stimulus built settings b short v =
    record { within = short; ports = built.ports; are_ports = ports_are text built b; faultless = v.none; is = v.ok }

-- a run of what was built
pub ran_refused : (text stimulus : List ℕ) (built : Built) (status : ℕ) (bytes : List ℕ) → IsBuilt text built → status ≡ 3 → Refuses built stimulus bytes
    → JudgesTexts Run text stimulus status bytes
ran_refused text stimulus built status bytes b three r = rw three (ran text stimulus built.fitted 3 bytes b.accepted (stimulus_refused bytes r))

pub ran_long : (text stimulus : List ℕ) (built : Built) (status : ℕ) (bytes : List ℕ) → IsBuilt text built → stimulus_limit < length stimulus → status ≡ 3
    → bytes ≡ whole_stimulus_bytes TooLong first_place → JudgesTexts Run text stimulus status bytes
ran_long text stimulus built status bytes b long three e = ran_refused text stimulus built status bytes b three (refuses_long built stimulus bytes long e)

pub ran_traced : (text stimulus : List ℕ) (built : Built) (settings : Stimulus) (watched : List ℕ) → IsBuilt text built → Takes built stimulus settings
    → Gives (JudgesTexts Run text stimulus) (decision.Run built settings watched)
ran_traced text stimulus built settings watched b takes = λ bytes t.
    ran text stimulus built.fitted 0 bytes b.accepted (written settings bytes takes t)

-- a dump of what was built
abbrev pub NamesNone : Built → List (List ℕ) → Type 0
NamesNone built = NamesNoLeaf built.fitted.checked.resolved.names (design_of built.fitted)

pub dump_unknown : (names : List (List ℕ)) (text stimulus : List ℕ) (built : Built) (status : ℕ) (bytes : List ℕ) → IsBuilt text built → NamesNone built names → status ≡ 2
    → bytes ≡ whole_bytes WatchUnknown first_place → JudgesTexts (Vcd names) text stimulus status bytes
dump_unknown names text stimulus built status bytes b none two e = rw (two, e) (watch_unknown names text stimulus built.fitted b.accepted none)

pub dump_refused : (names : List (List ℕ)) (text stimulus : List ℕ) (built : Built) (status : ℕ) (bytes : List ℕ) → IsBuilt text built → (NamesNone built names → ⊥) → status ≡ 3
    → Refuses built stimulus bytes → JudgesTexts (Vcd names) text stimulus status bytes
dump_refused names text stimulus built status bytes b known three r =
    rw three (dumped names text stimulus built.fitted 3 bytes b.accepted known (stimulus_refused bytes r))

pub dump_taken : (names : List (List ℕ)) (text stimulus : List ℕ) (built : Built) (settings : Stimulus) (numbers : List ℕ) → IsBuilt text built → (NamesNone built names → ⊥)
    → AreNumbersOf built.ordered.net names numbers → Takes built stimulus settings → Gives (JudgesTexts (Vcd names) text stimulus) (decision.Dump built settings numbers)
dump_taken names text stimulus built settings numbers b known numbered takes = record {
  names = names;
  numbered = numbered;
  dumped = λ bytes t. dumped names text stimulus built.fitted 0 bytes b.accepted known (written settings bytes takes t);
}

pub vcd_no_run : (names : List (List ℕ)) → Vcd names ≢ Run
vcd_no_run names run = cc

-- the snapshot of a text, or of none
pub started : (built : Built) (state : Option (List ℕ)) (start : Snapshot) → IsStartOf built.ordered.net state start → IsStart built start
started built None start s = record { few = let zero = s.0 in omega (arith, zero); state = net_cycles.first_state; holds = s.2 }
started built (Some text) start s = record { few = s.read.few; state = s.state; holds = s.holds }

-- a state's text, over the net of what was built
abbrev pub RefusesTheState : Built → Option StateText → List ℕ → Type 0
RefusesTheState built = RefusesState built.fitted.checked.resolved.names (design_of built.fitted)

pub refuses_long_state : (built : Built) (bytes : List ℕ) → bytes ≡ whole_state_bytes TooLong first_place → RefusesTheState built (Some Too_long) bytes
refuses_long_state built bytes e = rw e state_too_long

-- what the reading of the state answered
abbrev pub IsReadState : List ℕ → Built → Result Snapshot StateFault → Type 0
IsReadState text built result = IsVerdict place_in_state rank_in_state (IsStateFault (cells_of built.ordered.net built.ports.inputs) text) (IsSnapshot built.ordered.net built.ports.inputs text) result

pub refuses_state_fault : (circuit text : List ℕ) (built : Built) (fault : StateFault) (place : Place) (bytes : List ℕ) → IsBuilt circuit built → IsReadState text built (Err fault)
    → place_in_state fault ≡ Some place → bytes ≡ state_bytes fault place → RefusesTheState built (Some (Told text)) bytes
refuses_state_fault circuit text built fault place bytes b v at e = rw e
    (⊎_elim (λ m. absurd (let n : None ≡ Some place = sym m ∙ at in cc))
    (λ f. state_faulty text fault place
    (record { net = built.ordered.net; of = b.ordered.serves.of; first = subst (λ (ls : List PortLeaf). IsFirst place_in_state rank_in_state (IsStateFault (cells_of built.ordered.net ls) text) fault) b.inputs f }) at) v.fault)

pub takes_state : (circuit text : List ℕ) (built : Built) (start : Snapshot) → IsBuilt circuit built → IsReadState text built (Ok start) → IsStartOf built.ordered.net (Some text) start
takes_state circuit text built start b v = subst (λ (ls : List PortLeaf). IsSnapshot built.ordered.net ls text start) b.inputs v.ok

-- what is given, as the definition sees it
pub given_as : (begin : Option GivenText) (state : GivenText) (k : StateText) → begin ≡ Some state → text_given state ≡ k → option_map text_given begin ≡ Some k
given_as begin state k e f = ap (option_map text_given) e ∙ ap Some f

-- a run of what was built that begins with a state
abbrev pub WritesFrom : Type 1
WritesFrom = Option (List ℕ) → Stimulus → List ℕ → Type 0

abbrev pub RunsFromStart : Built → WritesFrom → Option StateText → List ℕ → ℕ → List ℕ → Type 0
RunsFromStart built Writes = RunsFrom built.fitted.checked.resolved.names (design_of built.fitted) Writes

abbrev pub Saves : Built → WritesFrom
Saves built state given = IsSavedText built.fitted.checked.resolved.names (design_of built.fitted) given state

abbrev pub Resumes : Built → WritesFrom
Resumes built state given = IsResumedText built.fitted.checked.resolved.names (design_of built.fitted) given state

runs_refused : (built : Built) (Writes : WritesFrom) (begin : Option StateText) (stimulus : List ℕ) (status : ℕ) (bytes : List ℕ) → status ≡ 3 → Refuses built stimulus bytes
    → RunsFromStart built Writes begin stimulus status bytes
runs_refused built Writes begin stimulus status bytes three r = rw three (given_refused bytes r)

runs_unstarted : (built : Built) (Writes : WritesFrom) (begin : Option StateText) (stimulus : List ℕ) (settings : Stimulus) (status : ℕ) (bytes : List ℕ) → status ≡ 3
    → Takes built stimulus settings → RefusesTheState built begin bytes → RunsFromStart built Writes begin stimulus status bytes
runs_unstarted built Writes begin stimulus settings status bytes three takes r = rw three (state_refused settings bytes takes r)

pub save_refused : (begin : Option StateText) (text stimulus : List ℕ) (built : Built) (status : ℕ) (bytes : List ℕ) → IsBuilt text built → status ≡ 3 → Refuses built stimulus bytes
    → JudgesTexts (Save begin) text stimulus status bytes
save_refused begin text stimulus built status bytes b three r =
    saved begin text stimulus built.fitted status bytes b.accepted (runs_refused built (Saves built) begin stimulus status bytes three r)

pub save_unstarted : (begin : Option StateText) (text stimulus : List ℕ) (built : Built) (settings : Stimulus) (status : ℕ) (bytes : List ℕ) → IsBuilt text built → status ≡ 3
    → Takes built stimulus settings → RefusesTheState built begin bytes → JudgesTexts (Save begin) text stimulus status bytes
save_unstarted begin text stimulus built settings status bytes b three takes r =
    saved begin text stimulus built.fitted status bytes b.accepted (runs_unstarted built (Saves built) begin stimulus settings status bytes three takes r)

pub save_begun : (begin : Option StateText) (state : Option (List ℕ)) (text stimulus : List ℕ) (built : Built) (settings : Stimulus) (start : Snapshot) → IsBuilt text built
    → Takes built stimulus settings → TakesState begin state → IsStartOf built.ordered.net state start → Gives (JudgesTexts (Save begin) text stimulus) (decision.Save built settings start)
save_begun begin state text stimulus built settings start b takes of begins = record {
  begin = state;
  begins = begins;
  written = λ bytes w. saved begin text stimulus built.fitted 0 bytes b.accepted (begun settings state bytes takes of w);
}

pub resume_refused : (begin : StateText) (text stimulus : List ℕ) (built : Built) (status : ℕ) (bytes : List ℕ) → IsBuilt text built → status ≡ 3 → Refuses built stimulus bytes
    → JudgesTexts (Resume begin) text stimulus status bytes
resume_refused begin text stimulus built status bytes b three r =
    resumed begin text stimulus built.fitted status bytes b.accepted (runs_refused built (Resumes built) (Some begin) stimulus status bytes three r)

pub resume_unstarted : (begin : StateText) (text stimulus : List ℕ) (built : Built) (settings : Stimulus) (status : ℕ) (bytes : List ℕ) → IsBuilt text built → status ≡ 3
    → Takes built stimulus settings → RefusesTheState built (Some begin) bytes → JudgesTexts (Resume begin) text stimulus status bytes
resume_unstarted begin text stimulus built settings status bytes b three takes r =
    resumed begin text stimulus built.fitted status bytes b.accepted (runs_unstarted built (Resumes built) (Some begin) stimulus settings status bytes three takes r)

pub resume_begun : (begin : StateText) (state : Option (List ℕ)) (text stimulus : List ℕ) (built : Built) (settings : Stimulus) (watched : List ℕ) (start : Snapshot) → IsBuilt text built
    → Takes built stimulus settings → TakesState (Some begin) state → IsStartOf built.ordered.net state start
    → Gives (JudgesTexts (Resume begin) text stimulus) (decision.Resume built settings watched start)
resume_begun begin state text stimulus built settings watched start b takes of begins = record {
  begin = state;
  begins = begins;
  written = λ bytes w. resumed begin text stimulus built.fitted 0 bytes b.accepted (begun settings state bytes takes of w);
}

pub save_no_run : (begin : Option StateText) → Save begin ≢ Run
save_no_run begin run = cc

pub resume_no_run : (begin : StateText) → Resume begin ≢ Run
resume_no_run begin run = cc

-- a log of what was built
pub log_refused : (text stimulus : List ℕ) (built : Built) (status : ℕ) (bytes : List ℕ) → IsBuilt text built → status ≡ 3 → Refuses built stimulus bytes
    → JudgesTexts Log text stimulus status bytes
log_refused text stimulus built status bytes b three r = rw three (logged text stimulus built.fitted 3 bytes b.accepted (stimulus_refused bytes r))

pub log_taken : (text stimulus : List ℕ) (built : Built) (settings : Stimulus) → IsBuilt text built → Takes built stimulus settings
    → Gives (JudgesTexts Log text stimulus) (decision.Log built settings)
log_taken text stimulus built settings b takes = λ bytes t. logged text stimulus built.fitted 0 bytes b.accepted (written settings bytes takes t)

pub log_no_run : Log ≢ Run
log_no_run run = cc
