-- `stores::free_cell` meets its contract: the search passes every entry that it meets.
use Rattle.std.proofs.Common.{rules}
use Rattle.stores.proofs.Linked.{cells-past, passes-all, ends-free}
use Rattle.stores.proofs.free_cell.Goals as goal

pub search-requires : goal.search-requires
search-requires c = cells-past _ _ c.requires _ _ (λ cell h. search rules) (λ cell seen p. search rules)

pub unwrap_err-requires : goal.unwrap_err-requires
unwrap_err-requires c = passes-all _ _ c.requires _ _ (λ cell h. search rules) (λ cell seen p. search rules) _ c.search.ensures

pub returns : goal.returns
returns c = ends-free _ _ c.requires _ _ (λ cell h. search rules) (λ cell seen p. search rules) _ c.search.ensures _ c.unwrap_err.ensures
