mod Narrow
