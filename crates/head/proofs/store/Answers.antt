-- What is stored is the session, and well formed.
use Rattle.head.proofs.Bytes.{stores}
use Rattle.head.proofs.store.Goals as goal

pub returns : goal.returns
returns c = stores c.args.head.now c.args.x c.requires.0 c.requires.1
