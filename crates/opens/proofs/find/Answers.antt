-- `opens::find` meets its contract: what the search finds in the index is what is found among the open forms.
use Rattle.std.proofs.Common.{rules}
use Rattle.opens.proofs.Looks.{open-forms, finds-open, finds-cell}
use Rattle.opens.proofs.find.Goals as goal

pub search-requires : goal.search-requires
search-requires c = open-forms _ _ _ c.requires.0 _ _ _ (λ cell h. search rules) (λ cell seen p. search rules)

pub returns-clause-found : goal.returns-clause-found
returns-clause-found c = finds-open _ _ _ c.requires.0 _ _ _ (λ cell h. search rules) (λ cell seen p. search rules) _ c.search.ensures

pub returns-clause-closed_at : goal.returns-clause-closed_at
returns-clause-closed_at c = finds-cell _ _ _ c.requires.0 _ _ _ (λ cell h. search rules) (λ cell seen p. search rules) _ c.search.ensures
