use Rattle.rules.proofs.Listed.{listing_tells_lem, listing_ordered, listing_once, permitted_exists, rest_tells}
use Rattle.rules.proofs.listings.listing_tells.Goals as goal

pub returns : goal.returns
returns c = record { holds = listing_tells_lem; ordered = listing_ordered; once = listing_once; exists = permitted_exists; rest = rest_tells }
