-- The texts of a header after lists were added to it.
use Rattle.std.proofs.Common.{◌≡◌, ℕ, List, ◌++◌, refl}
use Rattle.lp_write.specs.Headers.{Header}

-- the three lists of a grammar
pub grammar-added : (h : Header) (t w p given types clauses parameters : List (List ℕ)) →
    t ≡ h.type_parameters ++ given → w ≡ h.where_clauses ++ clauses → p ≡ h.parameters ++ parameters → given ≡ types →
    record h { type_parameters = t; where_clauses = w; parameters = p } ≡ record h {
      type_parameters = h.type_parameters ++ types;
      where_clauses = h.where_clauses ++ clauses;
      parameters = h.parameters ++ parameters;
    }
grammar-added h t w p given types clauses parameters x y z e = rw (x, y, z, e) refl
