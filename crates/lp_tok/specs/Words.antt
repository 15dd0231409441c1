-- Symbols of one character, and keywords.
use Rattle.std.specs.Prelude.{ℕ, ◌==◌, List, Option, Some, None, if◌then◌else◌, codes}
use Rattle.std.specs.Str.{bytes_eq}
use Rattle.lp_tok.specs.declared.tok.Tok.TheVariants.{Enum, Extern, Grammar, Match, Else, If, Mut, Pub, In, TypeWord, Where, For, Dyn, Ampersand, Comma, GreaterThan, LeftBrace, LeftBracket, LeftParen, LessThan, Plus, Question, RightBrace, RightBracket, RightParen, Semi, Star}
use Rattle.lp_tok.specs.Signs.{ampersand, left_parenthesis, right_parenthesis, star, plus, comma, semicolon, less, greater, question, left_bracket, right_bracket, left_brace, right_brace}
use Rattle.lp_tok.specs.Token.{Token, Symbol}

-- the token of a bracket
unfoldable pub bracket : ℕ → Option Token
bracket c =
    if c == left_brace then Some (Symbol LeftBrace)
    else (if c == left_bracket then Some (Symbol LeftBracket)
    else (if c == left_parenthesis then Some (Symbol LeftParen)
    else (if c == right_brace then Some (Symbol RightBrace)
    else (if c == right_bracket then Some (Symbol RightBracket)
    else (if c == right_parenthesis then Some (Symbol RightParen)
    else None)))))

-- the token that a character is, whatever follows it
unfoldable pub symbol : ℕ → Option Token
symbol c =
    if c == ampersand then Some (Symbol Ampersand)
    else (if c == comma then Some (Symbol Comma)
    else (if c == greater then Some (Symbol GreaterThan)
    else (if c == less then Some (Symbol LessThan)
    else (if c == plus then Some (Symbol Plus)
    else (if c == question then Some (Symbol Question)
    else (if c == semicolon then Some (Symbol Semi)
    else (if c == star then Some (Symbol Star)
    else bracket c)))))))

-- the token of a keyword
unfoldable pub keyword : List ℕ → Option Token
keyword w =
    if bytes_eq w (codes "enum") then Some (Symbol Enum)
    else (if bytes_eq w (codes "extern") then Some (Symbol Extern)
    else (if bytes_eq w (codes "grammar") then Some (Symbol Grammar)
    else (if bytes_eq w (codes "match") then Some (Symbol Match)
    else (if bytes_eq w (codes "else") then Some (Symbol Else)
    else (if bytes_eq w (codes "if") then Some (Symbol If)
    else (if bytes_eq w (codes "mut") then Some (Symbol Mut)
    else (if bytes_eq w (codes "pub") then Some (Symbol Pub)
    else (if bytes_eq w (codes "in") then Some (Symbol In)
    else (if bytes_eq w (codes "type") then Some (Symbol TypeWord)
    else (if bytes_eq w (codes "where") then Some (Symbol Where)
    else (if bytes_eq w (codes "for") then Some (Symbol For)
    else (if bytes_eq w (codes "dyn") then Some (Symbol Dyn)
    else None))))))))))))
