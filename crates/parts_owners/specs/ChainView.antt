-- What contracts see of a `Chain`, and what holds inside.
use Rattle.std.specs.Prelude.{length, ◌≤◌}
use Rattle.parts_owners.specs.declared.chain.Chain.TheInside.{Inside}
use Rattle.parts_owners.specs.Chains.{Links, Settled, links_of}

abbrev pub links : Inside → Links
links c = links_of c.claims.items c.mutexes.items

-- the priorities are the solution of the equations
pub record IsChain (c : Inside) : Type 0 where
  pub few : length c.claims.items ≤ 256
  pub settled : Settled (links c) c.exec.items
