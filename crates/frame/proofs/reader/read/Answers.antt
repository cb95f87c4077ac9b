use Rattle.std.proofs.Common.{rules}
use Rattle.frame.proofs.Exactly.{exact}
use Rattle.frame.proofs.Lying.{counted, parts_within, refused, accepted}
use Rattle.frame.proofs.reader.read.Goals as goal

pub returns-in_err-check_header-clause-exact : goal.returns-in_err-check_header-clause-exact
returns-in_err-check_header-clause-exact g c = exact g.K.Tally.kind g.K.Tally.laws

pub received-frame-requires : goal.received-frame-requires
received-frame-requires g c = counted g.K.Tally.kind c.args.bytes.now c.in_ok-check_header.ensures

pub check_lists-requires : goal.check_lists-requires
check_lists-requires g c = parts_within g.K.Tally.kind c.args.bytes.now _ c.received-frame.ensures.laid (counted g.K.Tally.kind c.args.bytes.now c.in_ok-check_header.ensures)

pub returns-in_err-check_lists : goal.returns-in_err-check_lists
returns-in_err-check_lists g c = record {
  judged = refused g.K.Tally.kind c.args.bytes.now c.in_ok-check_header.ensures _ c.received-frame.ensures.laid _ c.in_err-check_lists.field-0.0 (search rules) c.in_err-check_lists.ensures;
  exact = exact g.K.Tally.kind g.K.Tally.laws;
}

pub returns : goal.returns
returns g c = record {
  judged = accepted g.K.Tally.kind c.args.bytes.now c.in_ok-check_header.ensures _ c.received-frame.ensures.laid c.in_ok-check_lists.ensures c.received-frame.ensures.view;
  exact = exact g.K.Tally.kind g.K.Tally.laws;
}
