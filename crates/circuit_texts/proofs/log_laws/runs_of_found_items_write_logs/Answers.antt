use Rattle.circuit_texts.proofs.Logged.{log_of_run}
use Rattle.circuit_texts.proofs.log_laws.runs_of_found_items_write_logs.Goals as goal

pub returns : goal.returns
returns c = λ texts design prints ordered serves items found printed are all_found of ports stimulus planned bytes text.
    log_of_run texts design prints ordered serves items found printed are all_found of ports stimulus planned bytes text
