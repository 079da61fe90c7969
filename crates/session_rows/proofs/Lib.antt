mod SessionRows
