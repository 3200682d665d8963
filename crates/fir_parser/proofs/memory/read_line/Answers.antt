use Rattle.std.proofs.lemmas.Result.{err_from_is_err_and}
use Rattle.fir_parser.proofs.Keys.{line_begins, line_read, line_stops, port_line}
use Rattle.fir_parser.proofs.memory.read_line.Goals as goal

pub returns-in_err-place : goal.returns-in_err-place
returns-in_err-place c =
    let p = err_from_is_err_and c.from_residual.result c.from_residual.ensures.1 in
    rw (p.1, p.2) (line_begins _ c.key_here-key.ensures c.key_word.ensures c.in_err-place.ensures.reads)

pub returns-in_err-take_type-in-Element : goal.returns-in_err-take_type-in-Element
returns-in_err-take_type-in-Element c =
    let p = err_from_is_err_and c.from_residual-in_err-take_type-in-Element.result c.from_residual-in_err-take_type-in-Element.ensures.1 in
    rw (p.1, p.2) (line_stops c.key_here-key.result c.in-Element.is c.key_here-key.ensures c.key_word.ensures c.in_ok-place.ensures.reads c.in_err-take_type-in-Element.ensures)

pub returns-in_ok-take_type-in-Element : goal.returns-in_ok-take_type-in-Element
returns-in_ok-take_type-in-Element c = line_read c.key_here-key.result c.in-Element.is c.key_here-key.ensures c.key_word.ensures c.in_ok-place.ensures.reads c.in_ok-take_type-in-Element.ensures

pub returns-in_err-take_number-in-Depth : goal.returns-in_err-take_number-in-Depth
returns-in_err-take_number-in-Depth c =
    let p = err_from_is_err_and c.from_residual-in_err-take_number-in-Depth.result c.from_residual-in_err-take_number-in-Depth.ensures.1 in
    rw (p.1, p.2) (line_stops c.key_here-key.result c.in-Depth.is c.key_here-key.ensures c.key_word.ensures c.in_ok-place.ensures.reads c.in_err-take_number-in-Depth.ensures)

pub returns-in_ok-take_number-in-Depth : goal.returns-in_ok-take_number-in-Depth
returns-in_ok-take_number-in-Depth c = line_read c.key_here-key.result c.in-Depth.is c.key_here-key.ensures c.key_word.ensures c.in_ok-place.ensures.reads c.in_ok-take_number-in-Depth.ensures

pub returns-in_err-take_number-in-ReadLatency : goal.returns-in_err-take_number-in-ReadLatency
returns-in_err-take_number-in-ReadLatency c =
    let p = err_from_is_err_and c.from_residual-in_err-take_number-in-ReadLatency.result c.from_residual-in_err-take_number-in-ReadLatency.ensures.1 in
    rw (p.1, p.2) (line_stops c.key_here-key.result c.in-ReadLatency.is c.key_here-key.ensures c.key_word.ensures c.in_ok-place.ensures.reads c.in_err-take_number-in-ReadLatency.ensures)

pub returns-in_ok-take_number-in-ReadLatency : goal.returns-in_ok-take_number-in-ReadLatency
returns-in_ok-take_number-in-ReadLatency c = line_read c.key_here-key.result c.in-ReadLatency.is c.key_here-key.ensures c.key_word.ensures c.in_ok-place.ensures.reads c.in_ok-take_number-in-ReadLatency.ensures

pub returns-in_err-take_number-in-WriteLatency : goal.returns-in_err-take_number-in-WriteLatency
returns-in_err-take_number-in-WriteLatency c =
    let p = err_from_is_err_and c.from_residual-in_err-take_number-in-WriteLatency.result c.from_residual-in_err-take_number-in-WriteLatency.ensures.1 in
    rw (p.1, p.2) (line_stops c.key_here-key.result c.in-WriteLatency.is c.key_here-key.ensures c.key_word.ensures c.in_ok-place.ensures.reads c.in_err-take_number-in-WriteLatency.ensures)

pub returns-in_ok-take_number-in-WriteLatency : goal.returns-in_ok-take_number-in-WriteLatency
returns-in_ok-take_number-in-WriteLatency c = line_read c.key_here-key.result c.in-WriteLatency.is c.key_here-key.ensures c.key_word.ensures c.in_ok-place.ensures.reads c.in_ok-take_number-in-WriteLatency.ensures

pub returns-in_err-read_under-in-ReadUnder : goal.returns-in_err-read_under-in-ReadUnder
returns-in_err-read_under-in-ReadUnder c =
    let p = err_from_is_err_and c.from_residual-in_err-read_under-in-ReadUnder.result c.from_residual-in_err-read_under-in-ReadUnder.ensures.1 in
    rw (p.1, p.2) (line_stops c.key_here-key.result c.in-ReadUnder.is c.key_here-key.ensures c.key_word.ensures c.in_ok-place.ensures.reads c.in_err-read_under-in-ReadUnder.ensures)

pub returns-in_ok-read_under-in-ReadUnder : goal.returns-in_ok-read_under-in-ReadUnder
returns-in_ok-read_under-in-ReadUnder c = line_read c.key_here-key.result c.in-ReadUnder.is c.key_here-key.ensures c.key_word.ensures c.in_ok-place.ensures.reads c.in_ok-read_under-in-ReadUnder.ensures

pub returns-in_err-take_name-in-Port : goal.returns-in_err-take_name-in-Port
returns-in_err-take_name-in-Port c =
    let p = err_from_is_err_and c.from_residual-in_err-take_name-in-Port.result c.from_residual-in_err-take_name-in-Port.ensures.1 in
    rw (p.1, p.2) (line_stops c.key_here-key.result c.in-Port.is c.key_here-key.ensures c.key_word.ensures c.in_ok-place.ensures.reads c.in_err-take_name-in-Port.ensures.reads)

pub returns-in_ok-take_name-in-Port : goal.returns-in_ok-take_name-in-Port
returns-in_ok-take_name-in-Port c = rw (port_line c.args.reader.now.major c.in-Port.mode c.in_ok-place.place c.in_ok-take_name-in-Port.field-0) at
    (line_read c.key_here-key.result c.in-Port.is c.key_here-key.ensures c.key_word.ensures c.in_ok-place.ensures.reads c.in_ok-take_name-in-Port.ensures.reads)
