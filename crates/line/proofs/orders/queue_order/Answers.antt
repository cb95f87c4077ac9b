use Rattle.line.proofs.QueueOrders.{queue_order}
use Rattle.line.proofs.orders.queue_order.Goals as goal

pub returns : goal.returns
returns c = queue_order
