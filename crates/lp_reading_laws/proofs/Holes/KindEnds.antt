-- A hole of each kind ends where the parts behind it begin.
use Rattle.std.proofs.Common.{◌≡◌, ℕ, true, false, List, [], ◌++◌, length, get_or, codes, refl}
use Rattle.std.proofs.lemmas.Bool.{and_parts, both_ways}
use Rattle.lp_form.specs.Templates.{Piece}
use Rattle.lp_form.specs.declared.template.Kind.{Kind}
use Rattle.lp_form.specs.declared.template.Kind.TheVariants as kind
use Rattle.lp_spelling.specs.Lines.{line_of}
use Rattle.lp_spelling.specs.HoleEnds.{is_word, is_digit, kind_len}
use Rattle.lp_spelling.specs.Fillings.{is_number, is_name, is_element, has_shape, Fits}
use Rattle.lp_spelling.proofs.Exact.{run_front, apart}
use Rattle.lp_reading_laws.specs.Holes.LineTests.{angle, is_told_by}
use Rattle.lp_reading_laws.specs.Holes.Found.{are_words}
use Rattle.lp_reading_laws.proofs.Holes.Holding.{name_words, number_digits, escaped_words, number_free, range_free, are_joined_free}
use Rattle.lp_reading_laws.proofs.Holes.Asking.{AreMet, kind_asks}
use Rattle.lp_reading_laws.proofs.Holes.GoingOn.{AllFill}
use Rattle.lp_reading_laws.proofs.Holes.FirstEnds.{byte_first, parameters_first, text_first}
use Rattle.lp_reading_laws.proofs.Holes.LastEnds.{angle_last}
use Rattle.lp_reading_laws.proofs.Holes.SymbolEnds.{symbols_first}
use Rattle.lp_reading_laws.proofs.Holes.VisibilityEnds.{visibility_first}

-- a hole of each kind
pub kind_tells : (prefix : List ℕ) (kinds : List Kind) (holes : List (List ℕ)) (k : Kind) (n : ℕ) (parts : List Piece) → are_words prefix ≡ true → AllFill prefix kinds holes → Fits prefix k (get_or holes n []) →
    is_told_by kinds k parts ≡ true → AreMet prefix holes (kind_asks k n parts) → kind_len prefix k parts (get_or holes n [] ++ line_of prefix holes parts) ≡ length (get_or holes n [])
unfolding kind_len Fits has_shape is_element
kind_tells prefix kinds holes kind.Name n parts w a f t m = run_front is_word (get_or holes n []) (line_of prefix holes parts) (name_words (get_or holes n []) f.0) (apart prefix holes parts t).0
kind_tells prefix kinds holes kind.PlainName n parts w a f t m =
    run_front is_word (get_or holes n []) (line_of prefix holes parts) (name_words (get_or holes n []) (and_parts (is_name (get_or holes n [])) _ f.0).0) (apart prefix holes parts t).0
kind_tells prefix kinds holes kind.Escaped n parts w a f t m = run_front is_word (get_or holes n []) (line_of prefix holes parts) (escaped_words (get_or holes n []) f.0) (apart prefix holes parts t).0
kind_tells prefix kinds holes kind.Number n parts w a f t m = run_front is_digit (get_or holes n []) (line_of prefix holes parts) (number_digits (get_or holes n []) f.0) (apart prefix holes parts t).1
kind_tells prefix kinds holes kind.NotOne n parts w a f t m =
    run_front is_digit (get_or holes n []) (line_of prefix holes parts) (number_digits (get_or holes n []) (and_parts (is_number (get_or holes n [])) _ f.0).0) (apart prefix holes parts t).1
kind_tells prefix kinds holes kind.Visibility n parts w a f t m = visibility_first prefix holes (get_or holes n []) parts f.0 t
kind_tells prefix kinds holes kind.Numbers n parts w a f t m = byte_first angle prefix holes (get_or holes n []) parts t (are_joined_free prefix _ 32 (codes "| ") (get_or holes n []) (λ x e. number_free x e) refl f.0)
kind_tells prefix kinds holes kind.Ranges n parts w a f t m = byte_first angle prefix holes (get_or holes n []) parts t (are_joined_free prefix _ 32 (codes "| ") (get_or holes n []) (λ x e. range_free x e) refl f.0)
kind_tells prefix kinds holes kind.Parameters n parts w a f t m = parameters_first prefix holes (get_or holes n []) parts w f.0 t
kind_tells prefix kinds holes kind.Generics n parts w a f t m = angle_last prefix kinds holes (get_or holes n []) parts w a t
kind_tells prefix kinds holes kind.Pattern n parts w a f t m = angle_last prefix kinds holes (get_or holes n []) parts w a t
kind_tells prefix kinds holes kind.Patterns n parts w a f t m = angle_last prefix kinds holes (get_or holes n []) parts w a t
kind_tells prefix kinds holes kind.Text n parts w a f t m = text_first prefix holes n parts w t m
kind_tells prefix kinds holes kind.Symbols n parts w a f t m = symbols_first prefix holes n _ (get_or holes n []) parts w (λ y k. k) f.0 t m
kind_tells prefix kinds holes _ n parts w a f t m = absurd (both_ways false refl t)
