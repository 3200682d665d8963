use Rattle.std.proofs.lemmas.Result.{err_from_is_err_and}
use Rattle.std.proofs.Common.{◌≡◌, ◌∙◌, ap, arith}
use Rattle.fir_grammar.specs.Grammar.{a_text}
use Rattle.fir_grammar.specs.Faults.{Levels}
use Rattle.fir_parser.proofs.Joins.{joins, first, later, breaks}
use Rattle.fir_parser.proofs.Texts.{Sets, stands_set, here_set, refused_set, text_read, enters_text, refused_text, without_words, with_version, at_three, text_shallow, version_fault}
use Rattle.fir_parser.proofs.parser.read_text.Goals as goal

pub returns-in_err-read_words-clause-fault : goal.returns-in_err-read_words-clause-fault
returns-in_err-read_words-clause-fault c =
    let p = err_from_is_err_and c.from_residual.result c.from_residual.ensures.1 in
    rw (p.1, p.2) (refused_text c.args.reader.now _ c.requires.start (without_words c.args.reader.now c.requires.start c.in_err-read_words.ensures.absent) (breaks a_text (enters_text c.args.reader.now) (first _ c.in_err-read_words.ensures.reads)))

pub returns-in_err-major-clause-fault : goal.returns-in_err-major-clause-fault
returns-in_err-major-clause-fault c =
    let p = err_from_is_err_and c.from_residual-in_err-major.result c.from_residual-in_err-major.ensures.1 in
    rw (p.1, p.2) (version_fault c.args.reader.now c.read_words.new.reader _ c.requires.start c.in_ok-read_words.ensures.two c.in_ok-read_words.ensures.reads.taken c.in_err-major.ensures.refused)

pub returns-in_err-read_numbers-clause-fault : goal.returns-in_err-read_numbers-clause-fault
returns-in_err-read_numbers-clause-fault c =
    let p = err_from_is_err_and c.from_residual-in_err-read_numbers.result c.from_residual-in_err-read_numbers.ensures.1 in
    let set : Sets c.in_ok-major.major c.take_major.new.reader c.set_major.new.self = (record { major = c.set_major.ensures.major; bytes = c.set_major.ensures.bytes; laid = c.set_major.ensures.laid; at = c.set_major.ensures.at; names = c.set_major.ensures.names; brackets = c.set_major.ensures.brackets }) in
    rw (p.1, p.2) (refused_text c.args.reader.now _ c.requires.start (with_version c.args.reader.now c.take_major.new.reader c.in_ok-major.major c.requires.start (at_three c.args.reader.now c.read_words.new.reader c.take_major.new.reader c.in_ok-major.major c.requires.start c.in_ok-read_words.ensures.two c.in_ok-major.ensures.ok) (joins c.in_ok-read_words.ensures.reads.taken c.in_ok-major.ensures.ok))
    (breaks a_text (enters_text c.args.reader.now) (later (joins c.in_ok-read_words.ensures.reads.taken c.in_ok-major.ensures.ok) (refused_set c.take_major.new.reader c.set_major.new.self set (first _ c.in_err-read_numbers.ensures)))))

pub returns-in_err-circuit-clause-fault : goal.returns-in_err-circuit-clause-fault
returns-in_err-circuit-clause-fault c =
    let p = err_from_is_err_and c.from_residual-in_err-circuit.result c.from_residual-in_err-circuit.ensures.1 in
    let set : Sets c.in_ok-major.major c.take_major.new.reader c.set_major.new.self = (record { major = c.set_major.ensures.major; bytes = c.set_major.ensures.bytes; laid = c.set_major.ensures.laid; at = c.set_major.ensures.at; names = c.set_major.ensures.names; brackets = c.set_major.ensures.brackets }) in
    rw (p.1, p.2) (refused_text c.args.reader.now _ c.requires.start (with_version c.args.reader.now c.take_major.new.reader c.in_ok-major.major c.requires.start (at_three c.args.reader.now c.read_words.new.reader c.take_major.new.reader c.in_ok-major.major c.requires.start c.in_ok-read_words.ensures.two c.in_ok-major.ensures.ok) (joins c.in_ok-read_words.ensures.reads.taken c.in_ok-major.ensures.ok))
    (breaks a_text (enters_text c.args.reader.now) (later (joins c.in_ok-read_words.ensures.reads.taken c.in_ok-major.ensures.ok) (refused_set c.take_major.new.reader c.set_major.new.self set (later c.in_ok-read_numbers.ensures.taken c.in_err-circuit.ensures.refused)))))

pub returns-clause-ok : goal.returns-clause-ok
returns-clause-ok c = text_read c.in_ok-major.major c.args.reader.now c.read_words.new.reader c.take_major.new.reader c.set_major.new.self c.read_numbers.new.reader c.read_circuit.new.reader c.in_ok-circuit.circuit.0 c.in_ok-circuit.circuit.1
    c.in_ok-read_words.ensures.reads.taken c.in_ok-major.ensures.ok (record { major = c.set_major.ensures.major; bytes = c.set_major.ensures.bytes; laid = c.set_major.ensures.laid; at = c.set_major.ensures.at; names = c.set_major.ensures.names; brackets = c.set_major.ensures.brackets }) c.in_ok-read_numbers.ensures.taken c.in_ok-circuit.ensures.ok

pub returns-clause-end : goal.returns-clause-end
returns-clause-end c = rw (c.in_ok-read_numbers.ensures.taken.laid, c.set_major.ensures.laid, (joins c.in_ok-read_words.ensures.reads.taken c.in_ok-major.ensures.ok).laid) at c.in_ok-circuit.ensures.end

pub returns-clause-shallow : goal.returns-clause-shallow
returns-clause-shallow c = text_shallow c.args.reader.now c.read_circuit.new.reader c.in_ok-circuit.circuit c.requires.start (returns-clause-ok c) (returns-clause-end c)

pub read_numbers-requires-clause-at : goal.read_numbers-requires-clause-at
read_numbers-requires-clause-at c =
    let set : Sets c.in_ok-major.major c.take_major.new.reader c.set_major.new.self = (record { major = c.set_major.ensures.major; bytes = c.set_major.ensures.bytes; laid = c.set_major.ensures.laid; at = c.set_major.ensures.at; names = c.set_major.ensures.names; brackets = c.set_major.ensures.brackets }) in
    stands_set c.take_major.new.reader c.set_major.new.self set c.in_ok-major.ensures.at

pub read_numbers-requires-clause-suffixes : goal.read_numbers-requires-clause-suffixes
read_numbers-requires-clause-suffixes c =
    let set : Sets c.in_ok-major.major c.take_major.new.reader c.set_major.new.self = (record { major = c.set_major.ensures.major; bytes = c.set_major.ensures.bytes; laid = c.set_major.ensures.laid; at = c.set_major.ensures.at; names = c.set_major.ensures.names; brackets = c.set_major.ensures.brackets }) in
    rw (here_set c.take_major.new.reader c.set_major.new.self set) c.in_ok-major.ensures.suffixes

pub read_circuit-requires : goal.read_circuit-requires
read_circuit-requires c =
    let set : Sets c.in_ok-major.major c.take_major.new.reader c.set_major.new.self = (record { major = c.set_major.ensures.major; bytes = c.set_major.ensures.bytes; laid = c.set_major.ensures.laid; at = c.set_major.ensures.at; names = c.set_major.ensures.names; brackets = c.set_major.ensures.brackets }) in (
      c.in_ok-read_numbers.ensures.at,
      c.in_ok-read_numbers.ensures.blocks ∙ (ap (λ (l : Levels). l.blocks) (here_set c.take_major.new.reader c.set_major.new.self set) ∙ (c.in_ok-major.ensures.blocks ∙ (c.in_ok-read_words.ensures.reads.blocks ∙ c.requires.inside.1))),
    )
