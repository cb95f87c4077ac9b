use Rattle.line.proofs.BoardOrders.{board_order}
use Rattle.line.proofs.orders.board_order.Goals as goal

pub returns : goal.returns
returns c = board_order
