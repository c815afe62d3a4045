-- What a tree of listings is seen as.
use Rattle.std.specs.Prelude.{List, [], ◌∷◌, ◌++◌}
use Rattle.udt_queues.specs.declared.tree.Listing.{Listing}
use Rattle.udt_queues.specs.declared.tree.Link.{Link}
use Rattle.udt_queues.specs.declared.tree.Link.TheVariants.{Tip, Joint}
use Rattle.udt_queues.specs.Listings.{IsLeast}

-- the listings in order
abbrev pub listings_of : Link → List Listing
listings_of Tip = []
listings_of (Joint f) = f.value.left ++ f.value.listing ∷ f.value.right

-- a fork has the least of its listings
abbrev pub IsSound : Link → Type 0
IsSound Tip = Unit {0}
IsSound (Joint f) = IsLeast f.value.least (f.value.left ++ f.value.listing ∷ f.value.right)
