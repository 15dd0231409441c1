-- What the texts of a header are.
use Rattle.lp_write.specs.Headers.{Header}
use Rattle.lp_codegen.specs.declared.header.HeaderTexts.{HeaderTexts}

abbrev pub texts_header : HeaderTexts → Header
texts_header texts = record {
  name = texts.name;
  type_parameters = texts.type_parameters.items;
  parameters = texts.parameters.items;
  return_type = texts.return_type;
  where_clauses = texts.where_clauses.items;
}
