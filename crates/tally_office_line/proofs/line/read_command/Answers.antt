use Rattle.clap.specs.Words.{found_of, rows_of}
use Rattle.tally_office_line.proofs.CommandLemmas.{allot_arguments, serve_arguments}
use Rattle.tally_office_line.proofs.line.read_command.Goals as goal

pub read_allot-requires-clause-seats : goal.read_allot-requires-clause-seats
read_allot-requires-clause-seats c = (allot_arguments c.args.name.now (rows_of (found_of c.args.arguments.now)) c.in-allot.is c.requires).0

pub read_allot-requires-clause-method : goal.read_allot-requires-clause-method
read_allot-requires-clause-method c = (allot_arguments c.args.name.now (rows_of (found_of c.args.arguments.now)) c.in-allot.is c.requires).1

pub read_serve-requires-clause-port : goal.read_serve-requires-clause-port
read_serve-requires-clause-port c = (serve_arguments c.args.name.now (rows_of (found_of c.args.arguments.now)) c.in-serve.is c.requires).1

pub read_serve-requires-clause-count : goal.read_serve-requires-clause-count
read_serve-requires-clause-count c = (serve_arguments c.args.name.now (rows_of (found_of c.args.arguments.now)) c.in-serve.is c.requires).2
