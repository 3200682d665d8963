-- The ranges of the commands' numbers.
use Rattle.std.proofs.Common.{◌≡◌, ◌∙◌, Bool, true, false, refl, sym, true≢false, codes}
use Rattle.std.specs.Prelude.{pos}
use Rattle.clap.specs.declared.builder.value_parser.ValueParser.TheVariants.{Signed}
use Rattle.command_words.specs.Commands.{app_named}
use Rattle.command_words.specs.declared.commands.Name.TheVariants.{Run, Cut, Make, Vcd, Refine, Save, Resume, Log}
use Rattle.command_words.proofs.Numbers.{HasOnly}

never : {A : Type 0} (b : Bool) → b ≡ false → b ≡ true → A
never b differs same = absurd (true≢false (sym same ∙ differs))

pub run_workers : HasOnly (codes "workers") (Signed (pos 1) (pos 64)) (app_named Run).top.rules
run_workers = ((λ _. refl), ((λ e. never _ refl e), ((λ e. never _ refl e), ((λ e. never _ refl e), tt))))

pub cut_workers : HasOnly (codes "workers") (Signed (pos 1) (pos 64)) (app_named Cut).top.rules
cut_workers = ((λ _. refl), ((λ e. never _ refl e), tt))

pub vcd_workers : HasOnly (codes "workers") (Signed (pos 1) (pos 64)) (app_named Vcd).top.rules
vcd_workers = ((λ _. refl), ((λ e. never _ refl e), ((λ e. never _ refl e), tt)))

pub refine_workers : HasOnly (codes "workers") (Signed (pos 1) (pos 64)) (app_named Refine).top.rules
refine_workers = ((λ _. refl), ((λ e. never _ refl e), tt))

pub save_workers : HasOnly (codes "workers") (Signed (pos 1) (pos 64)) (app_named Save).top.rules
save_workers = ((λ _. refl), ((λ e. never _ refl e), ((λ e. never _ refl e), tt)))

pub resume_workers : HasOnly (codes "workers") (Signed (pos 1) (pos 64)) (app_named Resume).top.rules
resume_workers = ((λ _. refl), ((λ e. never _ refl e), ((λ e. never _ refl e), tt)))

pub log_workers : HasOnly (codes "workers") (Signed (pos 1) (pos 64)) (app_named Log).top.rules
log_workers = ((λ _. refl), ((λ e. never _ refl e), tt))

pub make_workers : HasOnly (codes "workers") (Signed (pos 1) (pos 64)) (app_named Make).top.rules
make_workers = ((λ _. refl), ((λ e. never _ refl e), ((λ e. never _ refl e), tt)))

pub make_cycles : HasOnly (codes "cycles") (Signed (pos 1) (pos 4096)) (app_named Make).top.rules
make_cycles = ((λ e. never _ refl e), ((λ _. refl), ((λ e. never _ refl e), tt)))

pub make_size : HasOnly (codes "size") (Signed (pos 1) (pos 4096)) (app_named Make).top.rules
make_size = ((λ e. never _ refl e), ((λ e. never _ refl e), ((λ _. refl), tt)))
