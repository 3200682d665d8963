use Rattle.name_laws.proofs.Marks.{words_name, name_marks, word_marks}
use Rattle.name_laws.proofs.laws.words_have_no_marks.Goals as goal

pub returns-clause-marks : goal.returns-clause-marks
returns-clause-marks c = λ name h b among. word_marks name h b among

pub returns-clause-words : goal.returns-clause-words
returns-clause-words c = λ name h. words_name name h

pub returns-clause-names : goal.returns-clause-names
returns-clause-names c = λ name h b among. name_marks name h b among
