mod PrintLemmas
