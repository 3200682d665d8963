use Rattle.std.proofs.Common.{◌∙◌, ap, ap₂, subst, codes}
use Rattle.clap.specs.Words.{found_of}
use Rattle.clap.proofs.WalkLemmas.{first_value-rows, one_text-rows}
use Rattle.command_words.specs.Commands.{AreOf, Run, Check, Widths, Cut, Make, Vcd, Refine, Save, Resume, Log, is_set}
use Rattle.command_words.specs.declared.commands.Name.TheVariants as name
use Rattle.command_words.proofs.Asking.{cycles_of, flag_of, size_of, workers_of}
use Rattle.command_words.proofs.Matching.{ap₃, ap₄, text_or}
use Rattle.command_words.proofs.Ranges.{cut_workers, log_workers, make_workers, refine_workers, resume_workers, run_workers, save_workers, vcd_workers}
use Rattle.command_words.proofs.reading.asked.Goals as goal

pub returns-in-Run-clause-command : goal.returns-in-Run-clause-command
returns-in-Run-clause-command c =
    let m = c.args.matches.now in
    let workers = workers_of name.Run m (subst (λ n. AreOf n m) c.in-Run.is c.requires) run_workers c.get_one.result (c.get_one.ensures.none, c.get_one.ensures.value) in
    let circuit = text_or c.get_str.result _ (found_of m) (codes "circuit") c.get_str.ensures in
    let refined = flag_of _ _ _ c.get_one-in-Run.ensures.none c.get_one-in-Run.ensures.value in
    rw c.in-Run.is (ap₄ Run _ _ _ _ _ _ _ _ (c.unwrap_or-workers.ensures ∙ workers.0) (c.unwrap_or.ensures ∙ (refined ∙ ap is_set (one_text-rows (found_of m) (codes "refine"))))
    (ap (λ s. s.now) c.unwrap_or-circuit.ensures ∙ circuit) (c.get_str-in-Run.ensures ∙ first_value-rows (found_of m) (codes "stimulus")))

pub returns-in-Run-clause-in_range : goal.returns-in-Run-clause-in_range
returns-in-Run-clause-in_range c =
    let m = c.args.matches.now in
    let workers = workers_of name.Run m (subst (λ n. AreOf n m) c.in-Run.is c.requires) run_workers c.get_one.result (c.get_one.ensures.none, c.get_one.ensures.value) in
    rw c.unwrap_or-workers.ensures workers.1

pub returns-in-Check-clause-command : goal.returns-in-Check-clause-command
returns-in-Check-clause-command c =
    let circuit = text_or c.get_str.result _ (found_of c.args.matches.now) (codes "circuit") c.get_str.ensures in
    rw c.in-Check.is (ap Check (ap (λ s. s.now) c.unwrap_or-circuit.ensures ∙ circuit))

pub returns-in-Widths-clause-command : goal.returns-in-Widths-clause-command
returns-in-Widths-clause-command c =
    let circuit = text_or c.get_str.result _ (found_of c.args.matches.now) (codes "circuit") c.get_str.ensures in
    rw c.in-Widths.is (ap Widths (ap (λ s. s.now) c.unwrap_or-circuit.ensures ∙ circuit))

pub returns-in-Cut-clause-command : goal.returns-in-Cut-clause-command
returns-in-Cut-clause-command c =
    let m = c.args.matches.now in
    let workers = workers_of name.Cut m (subst (λ n. AreOf n m) c.in-Cut.is c.requires) cut_workers c.get_one.result (c.get_one.ensures.none, c.get_one.ensures.value) in
    let circuit = text_or c.get_str.result _ (found_of m) (codes "circuit") c.get_str.ensures in
    rw c.in-Cut.is (ap₂ Cut (c.unwrap_or-workers.ensures ∙ workers.0) (ap (λ s. s.now) c.unwrap_or-circuit.ensures ∙ circuit))

pub returns-in-Cut-clause-in_range : goal.returns-in-Cut-clause-in_range
returns-in-Cut-clause-in_range c =
    let m = c.args.matches.now in
    let workers = workers_of name.Cut m (subst (λ n. AreOf n m) c.in-Cut.is c.requires) cut_workers c.get_one.result (c.get_one.ensures.none, c.get_one.ensures.value) in
    rw c.unwrap_or-workers.ensures workers.1

pub returns-in-Make-clause-command : goal.returns-in-Make-clause-command
returns-in-Make-clause-command c =
    let m = c.args.matches.now in
    let of = subst (λ n. AreOf n m) c.in-Make.is c.requires in
    let workers = workers_of name.Make m of make_workers c.get_one.result (c.get_one.ensures.none, c.get_one.ensures.value) in
    let cycles = cycles_of m of c.get_one-in-Make.result (c.get_one-in-Make.ensures.none, c.get_one-in-Make.ensures.value) in
    let size = size_of m of c.get_one-in-Make-2.result (c.get_one-in-Make-2.ensures.none, c.get_one-in-Make-2.ensures.value) in
    rw c.in-Make.is (ap₃ Make _ _ _ _ _ _ (c.unwrap_or-workers.ensures ∙ workers.0) (c.unwrap_or-in-Make.ensures ∙ cycles.0) (c.unwrap_or-in-Make-2.ensures ∙ size.0))

pub returns-in-Make-clause-in_range : goal.returns-in-Make-clause-in_range
returns-in-Make-clause-in_range c =
    let m = c.args.matches.now in
    let of = subst (λ n. AreOf n m) c.in-Make.is c.requires in
    let workers = workers_of name.Make m of make_workers c.get_one.result (c.get_one.ensures.none, c.get_one.ensures.value) in
    let cycles = cycles_of m of c.get_one-in-Make.result (c.get_one-in-Make.ensures.none, c.get_one-in-Make.ensures.value) in
    let size = size_of m of c.get_one-in-Make-2.result (c.get_one-in-Make-2.ensures.none, c.get_one-in-Make-2.ensures.value) in
    rw (c.unwrap_or-workers.ensures, c.unwrap_or-in-Make.ensures, c.unwrap_or-in-Make-2.ensures) (workers.1.0, workers.1.1, cycles.1.0, cycles.1.1, size.1.0, size.1.1)

pub returns-in_ok-leaves-in-Vcd-clause-command : goal.returns-in_ok-leaves-in-Vcd-clause-command
returns-in_ok-leaves-in-Vcd-clause-command c =
    let m = c.args.matches.now in
    let workers = workers_of name.Vcd m (subst (λ n. AreOf n m) c.in-Vcd.is c.requires) vcd_workers c.get_one.result (c.get_one.ensures.none, c.get_one.ensures.value) in
    let circuit = text_or c.get_str.result _ (found_of m) (codes "circuit") c.get_str.ensures in
    rw c.in-Vcd.is (ap₃ Vcd _ _ _ _ _ _ (c.unwrap_or-workers.ensures ∙ workers.0) (ap (λ s. s.now) c.unwrap_or-circuit.ensures ∙ circuit) c.in_ok-leaves-in-Vcd.ensures)

pub returns-in_ok-leaves-in-Vcd-clause-in_range : goal.returns-in_ok-leaves-in-Vcd-clause-in_range
returns-in_ok-leaves-in-Vcd-clause-in_range c =
    let m = c.args.matches.now in
    let workers = workers_of name.Vcd m (subst (λ n. AreOf n m) c.in-Vcd.is c.requires) vcd_workers c.get_one.result (c.get_one.ensures.none, c.get_one.ensures.value) in
    rw c.unwrap_or-workers.ensures workers.1

pub returns-in-Refine-clause-command : goal.returns-in-Refine-clause-command
returns-in-Refine-clause-command c =
    let m = c.args.matches.now in
    let workers = workers_of name.Refine m (subst (λ n. AreOf n m) c.in-Refine.is c.requires) refine_workers c.get_one.result (c.get_one.ensures.none, c.get_one.ensures.value) in
    let circuit = text_or c.get_str.result _ (found_of m) (codes "circuit") c.get_str.ensures in
    rw c.in-Refine.is (ap₂ Refine (c.unwrap_or-workers.ensures ∙ workers.0) (ap (λ s. s.now) c.unwrap_or-circuit.ensures ∙ circuit))

pub returns-in-Refine-clause-in_range : goal.returns-in-Refine-clause-in_range
returns-in-Refine-clause-in_range c =
    let m = c.args.matches.now in
    let workers = workers_of name.Refine m (subst (λ n. AreOf n m) c.in-Refine.is c.requires) refine_workers c.get_one.result (c.get_one.ensures.none, c.get_one.ensures.value) in
    rw c.unwrap_or-workers.ensures workers.1

pub returns-in-Save-clause-command : goal.returns-in-Save-clause-command
returns-in-Save-clause-command c =
    let m = c.args.matches.now in
    let workers = workers_of name.Save m (subst (λ n. AreOf n m) c.in-Save.is c.requires) save_workers c.get_one.result (c.get_one.ensures.none, c.get_one.ensures.value) in
    let circuit = text_or c.get_str.result _ (found_of m) (codes "circuit") c.get_str.ensures in
    rw c.in-Save.is (ap₃ Save _ _ _ _ _ _ (c.unwrap_or-workers.ensures ∙ workers.0) (ap (λ s. s.now) c.unwrap_or-circuit.ensures ∙ circuit) (c.get_str-in-Save.ensures ∙ first_value-rows (found_of m) (codes "state")))

pub returns-in-Save-clause-in_range : goal.returns-in-Save-clause-in_range
returns-in-Save-clause-in_range c =
    let m = c.args.matches.now in
    let workers = workers_of name.Save m (subst (λ n. AreOf n m) c.in-Save.is c.requires) save_workers c.get_one.result (c.get_one.ensures.none, c.get_one.ensures.value) in
    rw c.unwrap_or-workers.ensures workers.1

pub returns-in-Resume-clause-command : goal.returns-in-Resume-clause-command
returns-in-Resume-clause-command c =
    let m = c.args.matches.now in
    let workers = workers_of name.Resume m (subst (λ n. AreOf n m) c.in-Resume.is c.requires) resume_workers c.get_one.result (c.get_one.ensures.none, c.get_one.ensures.value) in
    let circuit = text_or c.get_str.result _ (found_of m) (codes "circuit") c.get_str.ensures in
    rw c.in-Resume.is (ap₃ Resume _ _ _ _ _ _ (c.unwrap_or-workers.ensures ∙ workers.0) (ap (λ s. s.now) c.unwrap_or-circuit.ensures ∙ circuit) c.resumed_state.ensures)

pub resumed_state-requires : goal.resumed_state-requires
resumed_state-requires c = subst (λ n. AreOf n c.args.matches.now) c.in-Resume.is c.requires

pub returns-in-Resume-clause-in_range : goal.returns-in-Resume-clause-in_range
returns-in-Resume-clause-in_range c =
    let m = c.args.matches.now in
    let workers = workers_of name.Resume m (subst (λ n. AreOf n m) c.in-Resume.is c.requires) resume_workers c.get_one.result (c.get_one.ensures.none, c.get_one.ensures.value) in
    rw c.unwrap_or-workers.ensures workers.1

pub returns-in-Log-clause-command : goal.returns-in-Log-clause-command
returns-in-Log-clause-command c =
    let m = c.args.matches.now in
    let workers = workers_of name.Log m (subst (λ n. AreOf n m) c.in-Log.is c.requires) log_workers c.get_one.result (c.get_one.ensures.none, c.get_one.ensures.value) in
    let circuit = text_or c.get_str.result _ (found_of m) (codes "circuit") c.get_str.ensures in
    rw c.in-Log.is (ap₂ Log (c.unwrap_or-workers.ensures ∙ workers.0) (ap (λ s. s.now) c.unwrap_or-circuit.ensures ∙ circuit))

pub returns-in-Log-clause-in_range : goal.returns-in-Log-clause-in_range
returns-in-Log-clause-in_range c =
    let m = c.args.matches.now in
    let workers = workers_of name.Log m (subst (λ n. AreOf n m) c.in-Log.is c.requires) log_workers c.get_one.result (c.get_one.ensures.none, c.get_one.ensures.value) in
    rw c.unwrap_or-workers.ensures workers.1
