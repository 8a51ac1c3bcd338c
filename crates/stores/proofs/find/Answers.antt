-- `stores::find` meets its contract: what the search finds in the index is what is found among all the entries.
use Rattle.std.proofs.Common.{rules}
use Rattle.stores.proofs.Linked.{store-cells, finds-key, finds-cell}
use Rattle.stores.proofs.find.Goals as goal

pub search-requires : goal.search-requires
search-requires c = store-cells _ _ _ c.requires _ _ _ (λ cell h k. search rules) (λ cell seen p. search rules)

pub returns-clause-found : goal.returns-clause-found
returns-clause-found c = finds-key _ _ _ c.requires _ _ _ (λ cell h k. search rules) (λ cell seen p. search rules) _ c.search.ensures

pub returns-clause-free_in : goal.returns-clause-free_in
returns-clause-free_in c = finds-cell _ _ _ c.requires _ _ _ (λ cell h k. search rules) (λ cell seen p. search rules) _ c.search.ensures
